-- Where a cell shows to an agent that looks Down or Left. Assumes nothing.
use Prim.Native.Nat.{ℕ, ◌-◌, ◌*◌}
use native.Mathlib.Omega.{arith}
use mathlib.Core.Path.{◌≡◌, ap, ◌∙◌}
use Rattle.rules.specs.declared.Heading.{Heading}
use Rattle.rules.specs.declared.Heading.TheVariants.{Right, Down, Left}
use Rattle.rules.proofs.View.{down_shows, left_shows}
use Rattle.view.specs.Marks.{OnSquare, ShownAt}

module _ (g x : ℕ) (p : OnSquare g x) (h : Heading) where
  pub turned_down : h ≡ Down → ShownAt g h x (g * g - 1 - x)
  turned_down e = rw e (record { place = down_shows g x p.inside; within = omega (arith, p.inside) })

  pub turned_left : (r : ℕ) → ShownAt g Right x r → h ≡ Left → ShownAt g h x (g * g - 1 - r)
  turned_left r s e =
      rw e (record { place = ap (λ (k : ℕ). g * g - 1 - k) s.place ∙ left_shows g x p.inside; within = omega (arith, s.within) })
