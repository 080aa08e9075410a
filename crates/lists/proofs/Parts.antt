-- Parts of parts: the first of a part, the rest of it, a list with its end put back. Assumes nothing.
use Prim.Native.Nat.{ℕ, suc, ◌+◌, ◌-◌, ◌≤◌}
use mathlib.Core.Path.{◌≡◌, refl, sym, ap, ◌∙◌}
use mathlib.Core.List.{List, [], ◌∷◌, ◌++◌, append-nil}
use native.Mathlib.Nat.{le_of_eq}
use native.Mathlib.Omega.{arith}
use lib.ListN.{length, take, drop, length-drop, drop_of_length-le}
use lib.Seq.{take-nil, take-take, drop-drop}

module _ {A : Type 0} where
  drop_one : (m : ℕ) (l : List A) → drop 1 (take (suc m) l) ≡ take m (drop 1 l)
  drop_one m [] = sym (take-nil m)
  drop_one m (x ∷ l) = refl

  module _ (l : List A) (a n : ℕ) (h : 1 ≤ n) where
    pub first_of : take 1 (take n (drop a l)) ≡ take 1 (drop a l)
    first_of = take-take 1 n (drop a l) h

    pub rest_of : drop 1 (take n (drop a l)) ≡ take (n - 1) (drop (a + 1) l)
    rest_of =
        let e : n ≡ suc (n - 1) = omega arith in
        ap (λ (k : ℕ). drop 1 (take k (drop a l))) e ∙ drop_one (n - 1) (drop a l) ∙ ap (take (n - 1)) (drop-drop 1 a l)

  -- what `&mut l[a..]` leaves, once its part came back as ys
  pub put_rest : (l ys : List A) (a : ℕ) → take a l ++ (ys ++ drop (length l - a) (drop a l)) ≡ take a l ++ ys
  put_rest l ys a = rw (drop_of_length-le (drop a l) {i = length l - a} (le_of_eq (length-drop a l)), append-nil)
