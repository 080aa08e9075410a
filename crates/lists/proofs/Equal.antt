-- The test of two lists tells whether they are one. Assumes nothing.
use mathlib.Core.Path.{◌≡◌, refl, ap₂}
use mathlib.Core.Bool.{true, false≢true}
use mathlib.Core.List.{List, [], ◌∷◌}
use Prim.Native.Nat.{ℕ}
use lib.Dec.{eqb}
use borrow.Author.Tests.{eqb-true, eq-eqb}
use Rattle.lists.specs.Equal.{same_list}
use Rattle.lists.proofs.Tests.{and_left, and_right}

pub same_list_lem : (l s : List ℕ) → same_list l s ≡ true → l ≡ s
unfolding same_list
same_list_lem [] [] t = refl
same_list_lem [] (y ∷ s) t = absurd (false≢true t)
same_list_lem (x ∷ l) [] t = absurd (false≢true t)
same_list_lem (x ∷ l) (y ∷ s) t =
    ap₂ (λ (z : ℕ) (r : List ℕ). z ∷ r) (eqb-true x y (and_left (eqb x y) (same_list l s) t)) (same_list_lem l s (and_right (eqb x y) (same_list l s) t))

same_self : (l : List ℕ) → same_list l l ≡ true
unfolding same_list
same_self [] = refl
same_self (x ∷ l) = rw (eq-eqb x x refl, same_self l)

pub list_same : (l s : List ℕ) → l ≡ s → same_list l s ≡ true
list_same l s e = rw e (same_self s)
