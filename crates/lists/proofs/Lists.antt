-- What a loop over a slice needs: what is left from i on (`_end`, `_here`, `_next`), or what is passed (`_taken`). Assumes nothing.
use mathlib.Core.Path.{◌≡◌, refl, sym, ap, ◌∙◌}
use mathlib.Core.Bool.{Bool, true, false, cond, ◌&&◌, ◌||◌}
use mathlib.Core.List.{List, [], ◌∷◌, ◌++◌}
use Prim.Native.Nat.{ℕ, zero, suc, ◌+◌, ◌-◌, ◌≤◌, ◌<◌}
use native.Mathlib.Nat.{not-suc-le-zero, le_of_suc-le-suc, add-sub_cancel_left, le_of_eq}
use native.Mathlib.Numerals.{add-one}
use native.Mathlib.Omega.{arith}
use lib.Dec.{eqb}
use lib.ListN.{length, get_or, take, drop, drop_of_length-le, length-drop, length-append, take-append-drop}
use lib.Seq.{drop-cons, take-suc, take_all, length-take-le}
use borrow.Author.Tests.{eq-eqb}
use Rattle.lists.specs.Lists.{all, keep, member}
use Rattle.lists.proofs.Tests.{and_left, and_right, both}

-- ---- parts of a slice

module _ {A : Type 0} (l : List A) where
  -- what `&l[a..a + n]` holds
  pub part_is : (a n : ℕ) → take (a + n - a) (drop a l) ≡ take n (drop a l)
  part_is a n = ap (λ (k : ℕ). take k (drop a l)) (add-sub_cancel_left a n)

  -- what `&l[a..]` holds
  pub rest_is : (a : ℕ) → take (length l - a) (drop a l) ≡ drop a l
  rest_is a = take_all (length l - a) (drop a l) (le_of_eq (length-drop a l))

  -- how long a part is
  pub part_long : (a n : ℕ) → a + n ≤ length l → length (take n (drop a l)) ≡ n
  part_long a n h = length-take-le n (drop a l) (omega (arith, length-drop a l))

-- ---- tests of every element, and of some element

module _ {A : Type 0} (p : A → Bool) where
  pub all_append : (xs ys : List A) → all p (xs ++ ys) ≡ (all p xs && all p ys)
  unfolding all
  all_append [] ys = refl
  all_append (x ∷ xs) ys = rw (all_append xs ys) (sym (mathlib.Core.Bool.and_assoc (p x) (all p xs) (all p ys)))

  pub all_cells : (l : List A) (d : A) (i : ℕ) → all p l ≡ true → i < length l → p (get_or l i d) ≡ true
  unfolding all
  all_cells [] d i t h = absurd (not-suc-le-zero h)
  all_cells (x ∷ l) d zero t h = and_left (p x) (all p l) t
  all_cells (x ∷ l) d (suc i) t h = all_cells l d i (and_right (p x) (all p l) t) (le_of_suc-le-suc h)

  pub all_each : (l : List A) (d : A) → ((i : ℕ) → i < length l → p (get_or l i d) ≡ true) → all p l ≡ true
  unfolding all
  all_each [] d h = refl
  all_each (x ∷ l) d h = both (h 0 (Prim.Native.Nat.suc-le-suc Prim.Native.Nat.zero-le)) (all_each l d (λ i k. h (suc i) (Prim.Native.Nat.suc-le-suc k)))

module _ {A : Type 0} (p : A → Bool) (l : List A) (i : ℕ) (d : A) where
  pub all_end : length l ≤ i → all p (drop i l) ≡ true
  unfolding all
  all_end h = rw (drop_of_length-le l h)

  pub all_left : i < length l → all p (drop i l) ≡ (p (get_or l i d) && all p (drop (i + 1) l))
  unfolding all
  all_left h = rw (add-one, drop-cons l i d h)

-- ---- membership

module _ (x : ℕ) (l : List ℕ) (i : ℕ) where
  pub member_end : length l ≤ i → member x (drop i l) ≡ false
  unfolding member
  member_end h = rw (drop_of_length-le l h)

  pub member_left : i < length l → member x (drop i l) ≡ (eqb x (get_or l i 0) || member x (drop (i + 1) l))
  unfolding member
  member_left h = rw (add-one, drop-cons l i 0 h)

pub member_append : (x : ℕ) (xs ys : List ℕ) → member x (xs ++ ys) ≡ (member x xs || member x ys)
unfolding member
member_append x [] ys = refl
member_append x (y ∷ xs) ys = rw (member_append x xs ys) (sym (mathlib.Core.Bool.or_assoc (eqb x y) (member x xs) (member x ys)))

pub member_at : (l : List ℕ) (i : ℕ) → i < length l → member (get_or l i 0) l ≡ true
unfolding member
member_at [] i h = absurd (not-suc-le-zero h)
member_at (x ∷ l) zero h = rw (eq-eqb x x refl)
member_at (x ∷ l) (suc i) h = rw (member_at l i (le_of_suc-le-suc h)) (mathlib.Core.Bool.or-true (eqb (get_or l i 0) x))

-- ---- what is kept

cond_append : {A : Type 0} (b : Bool) (x : A) (k l m : List A) → k ≡ l ++ m → cond b (x ∷ k) k ≡ cond b (x ∷ l) l ++ m
cond_append true x k l m e = ap (λ (t : List _). x ∷ t) e
cond_append false x k l m e = e

cond_small : {A : Type 0} (b : Bool) (x : A) (k : ℕ) (l : List A) → length l ≤ k → length (cond b (x ∷ l) l) ≤ suc k
cond_small true x k l h = omega arith
cond_small false x k l h = omega arith

module _ {A : Type 0} (p : A → Bool) where
  pub keep_append : (xs ys : List A) → keep p (xs ++ ys) ≡ keep p xs ++ keep p ys
  unfolding keep
  keep_append [] ys = refl
  keep_append (x ∷ xs) ys = cond_append (p x) x (keep p (xs ++ ys)) (keep p xs) (keep p ys) (keep_append xs ys)

  pub keep_small : (l : List A) → length (keep p l) ≤ length l
  unfolding keep
  keep_small [] = omega arith
  keep_small (x ∷ l) = cond_small (p x) x (length l) (keep p l) (keep_small l)

  pub keep_one : (x : A) → keep p (x ∷ []) ≡ cond (p x) (x ∷ []) []
  unfolding keep
  keep_one x = refl

  -- a loop that has passed the first i elements
  pub keep_taken : (l : List A) (i : ℕ) (d : A) → i < length l → keep p (take (i + 1) l) ≡ keep p (take i l) ++ cond (p (get_or l i d)) (get_or l i d ∷ []) []
  keep_taken l i d h = rw (add-one i, take-suc l i d h) (keep_append (take i l) (get_or l i d ∷ []) ∙ ap (λ (t : List A). keep p (take i l) ++ t) (keep_one (get_or l i d)))

  pub keep_part : (l : List A) (i : ℕ) → length (keep p (take i l)) ≤ length (keep p l)
  keep_part l i =
      let e = ap length (sym (keep_append (take i l) (drop i l)) ∙ ap (keep p) (take-append-drop i l)) in
      omega (arith, e, length-append (keep p (take i l)) (keep p (drop i l)))
