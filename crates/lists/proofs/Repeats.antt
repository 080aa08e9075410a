-- One function or test over lists that stand one after the other, and sums of one number. Assumes nothing.
use Prim.Native.Nat.{ℕ, zero, suc, ◌*◌, ◌<◌}
use native.Mathlib.Nat.{le_refl}
use native.Mathlib.Omega.{arith}
use mathlib.Core.Path.{◌≡◌, refl, ap, ◌∙◌}
use mathlib.Core.Bool.{Bool, true}
use mathlib.Core.List.{List, ◌++◌, map, map-append}
use Rattle.lists.specs.Below.{sum_below, concat_below}
use Rattle.lists.specs.Lists.{all}
use Rattle.lists.proofs.Lists.{all_append}
use Rattle.lists.proofs.Tests.{both}

pub map_concat : {A B : Type 0} (f : A → B) (n : ℕ) (h : ℕ → List A) → map f (concat_below n h) ≡ concat_below n (λ i. map f (h i))
unfolding concat_below
map_concat f zero h = refl
map_concat f (suc n) h = map-append f (concat_below n h) (h n) ∙ ap (λ (l : List _). l ++ map f (h n)) (map_concat f n h)

pub all_concat : {A : Type 0} (p : A → Bool) (n : ℕ) (h : ℕ → List A) → ((i : ℕ) → i < n → all p (h i) ≡ true) → all p (concat_below n h) ≡ true
unfolding concat_below all
all_concat p zero h k = refl
all_concat p (suc n) h k = all_append p (concat_below n h) (h n) ∙ both (all_concat p n h (λ i l. k i (omega arith))) (k n (le_refl _))

pub sum_same : (n k : ℕ) → sum_below n (λ i. k) ≡ n * k
unfolding sum_below
sum_same zero k = omega arith
sum_same (suc n) k = omega (arith, sum_same n k)
