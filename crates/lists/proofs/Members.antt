-- Members of a list: of a longer list, of the list less one, by their places; lists with no number twice. Assumes nothing.
use mathlib.Core.Path.{◌≡◌, refl, sym, ap, ◌∙◌, subst}
use mathlib.Core.Logic.{◌⊎◌, inl, inr, ⊎_elim}
use mathlib.Core.Bool.{Bool, true, false, not, ◌||◌, or-true, true≢false}
use mathlib.Core.List.{List, [], ◌∷◌, ◌++◌}
use Prim.Native.Nat.{ℕ, zero, suc, ◌<◌, suc-le-suc}
use native.Mathlib.Nat.{zero-lt-suc, not-suc-le-zero, le_of_suc-le-suc, suc_inj, suc-ne-zero}
use lib.Dec.{eqb}
use lib.ListN.{length, get_or}
use borrow.Author.Tests.{eq-eqb, ne_eqb, not-true}
use Rattle.lists.specs.Below.{some_below, concat_below}
use Rattle.lists.specs.Lists.{all, member, distinct, without, place}
use Rattle.lists.proofs.Tests.{compared, same, other, and_left, and_right, both}
use Rattle.lists.proofs.Lists.{member_at, member_append}

-- a test is not both; one that cannot hold fails
pub clash : {b : Bool} → b ≡ true → b ≡ false → ⊥
clash t f = true≢false (sym t ∙ f)

pub fails : (b : Bool) → (b ≡ true → ⊥) → b ≡ false
fails true f = absurd (f refl)
fails false f = refl

-- two tests that tell the same
pub agree : (a b : Bool) → (a ≡ true → b ≡ true) → (b ≡ true → a ≡ true) → a ≡ b
agree true b f g = sym (f refl)
agree false true f g = g refl
agree false false f g = refl

module _ (x : ℕ) where
  pub member_none : member x [] ≡ true → ⊥
  unfolding member
  member_none h = clash h refl

  pub member_first : (l : List ℕ) → member x (x ∷ l) ≡ true
  unfolding member
  member_first l = rw (eq-eqb x x refl)

  pub member_more : (y : ℕ) (l : List ℕ) → member x l ≡ true → member x (y ∷ l) ≡ true
  unfolding member
  member_more y l h = rw h (or-true (eqb x y))

  -- it is the first, or one of the rest
  pub member_cases : (y : ℕ) (l : List ℕ) → member x (y ∷ l) ≡ true → (x ≡ y) ⊎ (member x l ≡ true)
  unfolding member
  member_cases y l h = elim (compared x y) [ same e t ↦ inl e | other n t ↦ inr (rw t at h) ]

  pub member_rest : (y : ℕ) (l : List ℕ) → (x ≡ y → ⊥) → member x (y ∷ l) ≡ true → member x l ≡ true
  member_rest y l n h = ⊎_elim (λ e. absurd (n e)) (λ m. m) (member_cases y l h)

-- ---- every element passes

module _ (p : ℕ → Bool) where
  pub all_member : (l : List ℕ) (x : ℕ) → all p l ≡ true → member x l ≡ true → p x ≡ true
  unfolding all
  all_member [] x a m = absurd (member_none x m)
  all_member (y ∷ l) x a m =
      ⊎_elim (λ e. ap p e ∙ and_left (p y) (all p l) a) (λ r. all_member l x (and_right (p y) (all p l) a) r) (member_cases x y l m)

  pub all_members : (l : List ℕ) → ((x : ℕ) → member x l ≡ true → p x ≡ true) → all p l ≡ true
  unfolding all
  all_members [] f = refl
  all_members (y ∷ l) f = both (f y (member_first y l)) (all_members l (λ x m. f x (member_more x y l m)))

-- ---- no number twice

module _ (x : ℕ) (l : List ℕ) where
  pub distinct_first : distinct (x ∷ l) ≡ true → member x l ≡ false
  unfolding distinct
  distinct_first u = not-true (member x l) (and_left (not (member x l)) (distinct l) u)

  pub distinct_rest : distinct (x ∷ l) ≡ true → distinct l ≡ true
  unfolding distinct
  distinct_rest u = and_right (not (member x l)) (distinct l) u

  pub distinct_more : member x l ≡ false → distinct l ≡ true → distinct (x ∷ l) ≡ true
  unfolding distinct
  distinct_more n u = rw (n, u)

pub distinct_none : distinct [] ≡ true
unfolding distinct
distinct_none = refl

-- a member of the rest is not the first
pub distinct_apart : (x y : ℕ) (l : List ℕ) → distinct (y ∷ l) ≡ true → member x l ≡ true → x ≡ y → ⊥
distinct_apart x y l u m e = clash (subst (λ (z : ℕ). member z l ≡ true) e m) (distinct_first y l u)

-- ---- the place of a member

pub place_lt : (c : ℕ) (l : List ℕ) → member c l ≡ true → place c l < length l
unfolding place
place_lt c [] h = absurd (member_none c h)
place_lt c (x ∷ l) h = elim (compared c x) [ same e t ↦ rw t (zero-lt-suc _) | other n t ↦ rw t (suc-le-suc (place_lt c l (member_rest c x l n h))) ]

pub get_d_place : (c : ℕ) (l : List ℕ) → member c l ≡ true → get_or l (place c l) 0 ≡ c
unfolding place
get_d_place c [] h = absurd (member_none c h)
get_d_place c (x ∷ l) h = elim (compared c x) [ same e t ↦ rw t (sym e) | other n t ↦ rw t (get_d_place c l (member_rest c x l n h)) ]

-- none before the first
pub place_first : (c : ℕ) (l : List ℕ) (k : ℕ) → k < place c l → eqb c (get_or l k 0) ≡ false
unfolding place
place_first c [] k h = absurd (not-suc-le-zero h)
place_first c (x ∷ l) zero h = elim (compared c x) [ same e t ↦ absurd (not-suc-le-zero (rw t at h)) | other n t ↦ t ]
place_first c (x ∷ l) (suc k) h = elim (compared c x) [ same e t ↦ absurd (not-suc-le-zero (rw t at h)) | other n t ↦ place_first c l k (le_of_suc-le-suc (rw t at h)) ]

pub place_get_d : (l : List ℕ) (d : ℕ) → distinct l ≡ true → d < length l → place (get_or l d 0) l ≡ d
unfolding place
place_get_d [] d u h = absurd (not-suc-le-zero h)
place_get_d (x ∷ l) zero u h = rw (eq-eqb x x refl)
place_get_d (x ∷ l) (suc d) u h =
    let k = le_of_suc-le-suc h in
    rw (ne_eqb (get_or l d 0) x (distinct_apart (get_or l d 0) x l u (member_at l d k))) (ap suc (place_get_d l d (distinct_rest x l u) k))

-- the place of what stands between
pub place_seam : (c : ℕ) (l r : List ℕ) → member c l ≡ false → place c (l ++ c ∷ r) ≡ length l
unfolding place
place_seam c [] r d = rw (eq-eqb c c refl)
place_seam c (x ∷ l) r d = elim (compared c x) [
  | same e t ↦ absurd (clash (subst (λ (y : ℕ). member c (y ∷ l) ≡ true) e (member_first c l)) d)
  | other n t ↦ rw (t, place_seam c l r (fails (member c l) (λ m. clash (member_more c x l m) d)))
]

-- ---- the list less one

pub length_without : (c : ℕ) (l : List ℕ) → member c l ≡ true → length l ≡ suc (length (without c l))
unfolding without
length_without c [] h = absurd (member_none c h)
length_without c (x ∷ l) h = elim (compared c x) [ same e t ↦ rw t | other n t ↦ rw t (ap suc (length_without c l (member_rest c x l n h))) ]

-- what is left is of the list; all but c is left
pub of_without : (x c : ℕ) (l : List ℕ) → member x (without c l) ≡ true → member x l ≡ true
unfolding without
of_without x c [] h = h
of_without x c (y ∷ l) h = elim (compared c y) [
  | same e t ↦ member_more x y l (rw t at h)
  | other n t ↦
      ⊎_elim (λ e. rw e (member_first y l)) (λ m. member_more x y l (of_without x c l m)) (member_cases x y (without c l) (rw t at h))
]

pub in_without : (x c : ℕ) (l : List ℕ) → (x ≡ c → ⊥) → member x l ≡ true → member x (without c l) ≡ true
unfolding without
in_without x c [] n h = h
in_without x c (y ∷ l) n h = elim (compared c y) [
  | same e t ↦ rw t (member_rest x y l (λ q. n (q ∙ sym e)) h)
  | other _ t ↦ rw t (⊎_elim (λ e. rw e (member_first y (without c l))) (λ m. member_more x y (without c l) (in_without x c l n m)) (member_cases x y l h))
]

pub not_in_without : (c : ℕ) (l : List ℕ) → distinct l ≡ true → member c (without c l) ≡ true → ⊥
unfolding without
not_in_without c [] u h = member_none c h
not_in_without c (x ∷ l) u h = elim (compared c x) [
  | same e t ↦ distinct_apart c x l u (rw t at h) e
  | other n t ↦ not_in_without c l (distinct_rest x l u) (member_rest c x (without c l) n (rw t at h))
]

pub distinct_without : (c : ℕ) (l : List ℕ) → distinct l ≡ true → distinct (without c l) ≡ true
unfolding without
distinct_without c [] u = distinct_none
distinct_without c (x ∷ l) u = elim (compared c x) [
  | same e t ↦ rw t (distinct_rest x l u)
  | other n t ↦
      rw t
      (distinct_more x (without c l) (fails (member x (without c l)) (λ m. clash (of_without x c l m) (distinct_first x l u)))
      (distinct_without c l (distinct_rest x l u)))
]

pub without_away : (c : ℕ) (l : List ℕ) → member c l ≡ false → without c l ≡ l
unfolding without
without_away c [] n = refl
without_away c (x ∷ l) n = elim (compared c x) [
  | same e t ↦ absurd (clash (subst (λ (y : ℕ). member c (y ∷ l) ≡ true) e (member_first c l)) n)
  | other _ t ↦ rw (t, without_away c l (fails (member c l) (λ m. clash (member_more c x l m) n)))
]

-- a list of different members of s, as long as s, has every member of s
pub covers : (l s : List ℕ) → distinct l ≡ true → ((x : ℕ) → member x l ≡ true → member x s ≡ true) → length s ≡ length l
    → (x : ℕ) → member x s ≡ true → member x l ≡ true
covers [] [] u f e x m = m
covers [] (y ∷ s) u f e x m = absurd (suc-ne-zero _ e)
covers (y ∷ l) s u f e x m = elim (compared x y) [
  | same q t ↦ rw q (member_first y l)
  | other n t ↦
      member_more x y l
      (covers l (without y s) (distinct_rest y l u) (λ z k. in_without z y s (distinct_apart z y l u k) (f z (member_more z y l k)))
      (suc_inj (sym (length_without y s (f y (member_first y l))) ∙ e)) x (in_without x y s n m))
]

-- a member of lists that stand one after the other is a member of some one
pub member_concat : (x n : ℕ) (f : ℕ → List ℕ) → member x (concat_below n f) ≡ some_below n (λ i. member x (f i))
unfolding concat_below some_below member
member_concat x zero f = refl
member_concat x (suc n) f = member_append x (concat_below n f) (f n) ∙ ap (λ (b : Bool). b || member x (f n)) (member_concat x n f)
