-- `score::all_finite` meets its contract: std tests a weight as the definition does, and `&` joins the seven. Assumes nothing.
use mathlib.Core.Path.{◌≡◌, refl, ◌∙◌}
use mathlib.Core.List.{[], ◌∷◌}
use mathlib.Core.Bool.{Bool, true, false, ◌&&◌}
use lib.Ieee.{Float, nan, inf, fin}
use lib.Ieee.Scale.{finite}
use Rattle.std.specs.Float.{float_is_finite}
use Rattle.lists.specs.Lists.{every}
use Rattle.score.proofs.rewards.all_finite.Goals as goal

seven : (a b c d e f g : Bool) → ((((((a && b) && c) && d) && e) && f) && g) ≡ every (a ∷ b ∷ c ∷ d ∷ e ∷ f ∷ g ∷ [])
unfolding every
seven false b c d e f g = refl
seven true false c d e f g = refl
seven true true false d e f g = refl
seven true true true false e f g = refl
seven true true true true false f g = refl
seven true true true true true false g = refl
seven true true true true true true false = refl
seven true true true true true true true = refl

same_test : (x : Float) → float_is_finite x ≡ finite x
unfolding float_is_finite
same_test nan = refl
same_test (inf s) = refl
same_test (fin s m k) = refl

pub returns : goal.returns
returns c =
    let told : (b : Bool) (x : Float) → b ≡ float_is_finite x → b ≡ finite x = λ b x e. e ∙ same_test x in
    rw (
      told _ _ c.is_finite.ensures.value,
      told _ _ c.is_finite-2.ensures.value,
      told _ _ c.is_finite-3.ensures.value,
      told _ _ c.is_finite-4.ensures.value,
      told _ _ c.is_finite-5.ensures.value,
      told _ _ c.is_finite-6.ensures.value,
      told _ _ c.is_finite-7.ensures.value,
    )
    (seven _ _ _ _ _ _ _)
