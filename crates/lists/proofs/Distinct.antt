-- A part of a list with no number twice has no number twice; two such lists with none in both. Assumes nothing.
use Prim.Native.Nat.{ℕ, zero, suc, ◌<◌}
use mathlib.Core.Path.{◌≡◌, refl, sym, ap, ◌∙◌}
use mathlib.Core.Bool.{Bool, true, false, not, ◌||◌, or-true}
use mathlib.Core.Logic.{⊎_elim}
use mathlib.Core.List.{List, [], ◌∷◌, ◌++◌, append-nil}
use lib.ListN.{take}
use Rattle.lists.specs.Below.{concat_below}
use Rattle.lists.specs.Lists.{member, distinct}
use Rattle.lists.proofs.Concat.{behind, block_split}
use Rattle.lists.proofs.Lists.{member_append}
use Rattle.lists.proofs.Members.{clash, fails, member_none, member_first, member_more, member_cases, distinct_none, distinct_first, distinct_rest, distinct_more}
use Rattle.lists.proofs.Shorter.{of_take, distinct_take}
use Rattle.lists.proofs.Tests.{and_left, and_right, both, or_false_right}

not_left : (a b : Bool) → not (a || b) ≡ true → not a ≡ true
not_left true b e = e
not_left false b e = refl

pub distinct_front : (xs ys : List ℕ) → distinct (xs ++ ys) ≡ true → distinct xs ≡ true
unfolding distinct
distinct_front [] ys e = refl
distinct_front (x ∷ xs) ys e =
    let m : not (member x (xs ++ ys)) ≡ true = and_left (not (member x (xs ++ ys))) (distinct (xs ++ ys)) e in
    both (not_left (member x xs) (member x ys) (ap not (sym (member_append x xs ys)) ∙ m))
    (distinct_front xs ys (and_right (not (member x (xs ++ ys))) (distinct (xs ++ ys)) e))

pub distinct_back : (xs ys : List ℕ) → distinct (xs ++ ys) ≡ true → distinct ys ≡ true
unfolding distinct
distinct_back [] ys e = e
distinct_back (x ∷ xs) ys e = distinct_back xs ys (and_right (not (member x (xs ++ ys))) (distinct (xs ++ ys)) e)

-- one of the lists that stand one after the other
pub distinct_block : (f : ℕ → List ℕ) (i n : ℕ) → i < n → distinct (concat_below n f) ≡ true → distinct (f i) ≡ true
distinct_block f i n h e =
    let q = ap distinct (sym (block_split f i n h []) ∙ append-nil (concat_below n f)) ∙ e in
    distinct_front (f i) (behind f i n h []) (distinct_back (concat_below i f) (f i ++ behind f i n h []) q)

-- two lists with no number twice and none in both
pub distinct_join : (a b : List ℕ) → distinct a ≡ true → distinct b ≡ true → ((x : ℕ) → member x a ≡ true → member x b ≡ false) → distinct (a ++ b) ≡ true
distinct_join [] b u v h = v
distinct_join (y ∷ a) b u v h =
    distinct_more y (a ++ b) (member_append y a b ∙ rw (distinct_first y a u, h y (member_first y a)))
    (distinct_join a b (distinct_rest y a u) v (λ x m. h x (member_more x y a m)))

pub distinct_cross : (x : ℕ) (a b : List ℕ) → distinct (a ++ b) ≡ true → member x a ≡ true → member x b ≡ false
distinct_cross x [] b u m = absurd (member_none x m)
distinct_cross x (y ∷ a) b u m =
    ⊎_elim (λ e. rw e (or_false_right (member y a) (member y b) (sym (member_append y a b) ∙ distinct_first y (a ++ b) u)))
    (λ r. distinct_cross x a b (distinct_rest y (a ++ b) u) r) (member_cases x y a m)

either : (a b c d : Bool) → (a ≡ true → c ≡ true) → (b ≡ true → d ≡ true) → (a || b) ≡ true → (c || d) ≡ true
either true b c d h k e = rw (h refl)
either false b c d h k e = rw (k e) (or-true c)

-- lists that stand one after the other, each cut to its first k
module _ (f : ℕ → List ℕ) (k : ℕ) where
  of_cut : (x n : ℕ) → member x (concat_below n (λ i. take k (f i))) ≡ true → member x (concat_below n f) ≡ true
  unfolding concat_below
  of_cut x zero m = m
  of_cut x (suc n) m =
      let a = concat_below n (λ i. take k (f i)) in
      member_append x (concat_below n f) (f n)
      ∙ either (member x a) (member x (take k (f n))) (member x (concat_below n f)) (member x (f n)) (of_cut x n) (of_take x k (f n))
      (sym (member_append x a (take k (f n))) ∙ m)

  pub distinct_cut : (n : ℕ) → distinct (concat_below n f) ≡ true → distinct (concat_below n (λ i. take k (f i))) ≡ true
  unfolding concat_below
  distinct_cut zero u = distinct_none
  distinct_cut (suc n) u =
      distinct_join (concat_below n (λ i. take k (f i))) (take k (f n)) (distinct_cut n (distinct_front (concat_below n f) (f n) u))
      (distinct_take k (f n) (distinct_back (concat_below n f) (f n) u))
      (λ x m. fails (member x (take k (f n))) (λ t. clash (of_take x k (f n) t) (distinct_cross x (concat_below n f) (f n) u (of_cut x n m))))
