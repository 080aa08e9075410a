-- The turns of a loop over the snakes: its start, one more, its end. Assumes nothing.
use Prim.Native.Nat.{ℕ, ◌+◌, ◌<◌, ◌≤◌}
use native.Mathlib.Omega.{arith}
use mathlib.Core.Path.{◌≡◌, sym, ap, ap₂, ◌∙◌}
use mathlib.Core.Bool.{Bool, true, false, ◌||◌}
use mathlib.Core.List.{List}
use lib.ListN.{replicate, set}
use Rattle.lists.specs.Below.{some_below, filled}
use Rattle.lists.proofs.Below.{some_none, some_next, filled_none, filled_more}
use Rattle.judge.specs.Loops.{Filling, Seeking}

module _ {A : Type 0} (f : ℕ → A) (blank : A) (n : ℕ) where
  pub fill_none : n ≤ 8 → Filling f blank n 0 (replicate 8 blank)
  fill_none h = record { few = h; along = omega arith; places = filled_none f 8 blank }

  module _ (i : ℕ) (all : List A) (q : Filling f blank n i all) where
    pub fill_next : i < n → (x : A) → x ≡ f i → Filling f blank n (i + 1) (set all i x)
    fill_next l x e = record {
      few = q.few;
      along = omega arith;
      places = ap₂ (λ (xs : List A) (x : A). set xs i x) q.places e ∙ filled_more f i 8 blank (omega (arith, q.few));
    }

    pub fill_all : n ≤ i → all ≡ filled f n 8 blank
    fill_all l = let e : i ≡ n = omega (arith, q.along) in q.places ∙ ap (λ (k : ℕ). filled f k 8 blank) e

module _ (p : ℕ → Bool) (n : ℕ) where
  pub seek_none : Seeking p n 0 false
  seek_none = record { along = omega arith; so_far = sym (some_none p) }

  module _ (i : ℕ) (found : Bool) (q : Seeking p n i found) where
    pub seek_next : i < n → (x : Bool) → x ≡ p i → Seeking p n (i + 1) (found || x)
    seek_next l x e = record { along = omega arith; so_far = ap₂ ◌||◌ q.so_far e ∙ sym (some_next p i) }

    pub seek_all : n ≤ i → found ≡ some_below n p
    seek_all l = let e : i ≡ n = omega (arith, q.along) in q.so_far ∙ ap (λ (k : ℕ). some_below k p) e
