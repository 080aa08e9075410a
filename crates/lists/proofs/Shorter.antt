-- What holds of a list holds of its first part and of what is kept of it. Assumes nothing.
use mathlib.Core.Path.{◌≡◌, refl, ap}
use mathlib.Core.Bool.{Bool, true, false, cond}
use mathlib.Core.List.{List, [], ◌∷◌, map}
use Prim.Native.Nat.{ℕ, zero, suc, ◌≤◌}
use native.Mathlib.Omega.{arith}
use lib.ListN.{take}
use Rattle.lists.specs.Lists.{all, keep, member, distinct, ascending}
use Rattle.lists.proofs.Tests.{and_left, and_right, both}
use Rattle.lists.proofs.Members.{fails, clash, member_none, member_first, member_more, member_cases, distinct_none, distinct_first, distinct_rest, distinct_more}
use Rattle.lists.proofs.Order.{ascending_first, ascending_rest, ascending_more, ascending_lower}
use mathlib.Core.Logic.{⊎_elim}

-- ---- the first k

pub all_take : {A : Type 0} (p : A → Bool) (k : ℕ) (l : List A) → all p l ≡ true → all p (take k l) ≡ true
unfolding all
all_take p zero l t = refl
all_take p (suc k) [] t = refl
all_take p (suc k) (x ∷ l) t = both (and_left (p x) (all p l) t) (all_take p k l (and_right (p x) (all p l) t))

pub map_take : {A B : Type 0} (f : A → B) (k : ℕ) (l : List A) → map f (take k l) ≡ take k (map f l)
map_take f zero l = refl
map_take f (suc k) [] = refl
map_take f (suc k) (x ∷ l) = ap (λ (t : List _). f x ∷ t) (map_take f k l)

pub of_take : (x k : ℕ) (l : List ℕ) → member x (take k l) ≡ true → member x l ≡ true
of_take x zero l m = absurd (member_none x m)
of_take x (suc k) [] m = m
of_take x (suc k) (y ∷ l) m =
    ⊎_elim (λ e. rw e (member_first y l)) (λ r. member_more x y l (of_take x k l r)) (member_cases x y (take k l) m)

pub distinct_take : (k : ℕ) (l : List ℕ) → distinct l ≡ true → distinct (take k l) ≡ true
distinct_take zero l u = distinct_none
distinct_take (suc k) [] u = u
distinct_take (suc k) (x ∷ l) u =
    distinct_more x (take k l) (fails (member x (take k l)) (λ m. clash (of_take x k l m) (distinct_first x l u))) (distinct_take k l (distinct_rest x l u))

-- ---- those that pass

all_kept : {A : Type 0} (p : A → Bool) (b : Bool) (x : A) (r : List A) → p x ≡ true → all p r ≡ true → all p (cond b (x ∷ r) r) ≡ true
unfolding all
all_kept p true x r t u = both t u
all_kept p false x r t u = u

pub all_keep : {A : Type 0} (p q : A → Bool) (l : List A) → all p l ≡ true → all p (keep q l) ≡ true
unfolding all keep
all_keep p q [] t = refl
all_keep p q (x ∷ l) t = all_kept p (q x) x (keep q l) (and_left (p x) (all p l) t) (all_keep p q l (and_right (p x) (all p l) t))

rising_kept : (b : Bool) (a x : ℕ) (r : List ℕ) → a ≤ x → ascending (suc x) r ≡ true → ascending a (cond b (x ∷ r) r) ≡ true
rising_kept true a x r h u = ascending_more a x r h u
rising_kept false a x r h u = ascending_lower a (suc x) r (omega arith) u

pub ascending_keep : (q : ℕ → Bool) (a : ℕ) (l : List ℕ) → ascending a l ≡ true → ascending a (keep q l) ≡ true
unfolding keep
ascending_keep q a [] u = u
ascending_keep q a (x ∷ l) u = rising_kept (q x) a x (keep q l) (ascending_first a x l u) (ascending_keep q (suc x) l (ascending_rest a x l u))

-- where all pass, all are kept
pub keep_all : (p : ℕ → Bool) (l : List ℕ) → ((x : ℕ) → p x ≡ true) → keep p l ≡ l
unfolding keep
keep_all p [] h = refl
keep_all p (x ∷ l) h = rw (keep_all p l h, h x)
