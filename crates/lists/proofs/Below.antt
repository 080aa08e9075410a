-- What a loop over the numbers below n needs: none yet, one number more, the end; and what its result tells. Assumes nothing.
use mathlib.Core.Path.{◌≡◌, refl, sym, ap, ap₂, subst, ◌∙◌}
use mathlib.Core.Bool.{Bool, true, false, ◌&&◌, ◌||◌, and-false, or-true}
use mathlib.Core.List.{List, [], ◌∷◌, ◌++◌, append_assoc, append-nil}
use mathlib.Core.Logic.{⊎_elim}
use Prim.Native.Nat.{ℕ, zero, suc, ◌+◌, ◌-◌, ◌*◌, ◌≤◌, ◌<◌}
use native.Mathlib.Nat.{not-suc-le-zero, le_of_suc-le-suc, eq-or-lt_of_le, le_antisymm, le_refl, sub-zero, add-zero, add-suc, mul-suc}
use native.Mathlib.Numerals.{add-one}
use native.Mathlib.Omega.{arith}
use lib.ListN.{length, get_or, set, replicate, length-append, get_or-append, get_or-eq_default}
use lib.Seq.{ext_get_or, set_at, get_or_at, append_snoc}
use Rattle.lists.specs.Choice.{bit}
use Rattle.lists.specs.Below.{all_below, some_below, count_below, sum_below, each_below, concat_below, lowest_from, filled}
use Rattle.lists.proofs.Tests.{and_left, and_right, bit_le, ordered, less, more, or_false_left, or_false_right}

-- a number below suc n is n or below n
under : (P : ℕ → Type 0) (n i : ℕ) → i < suc n → P n → (i < n → P i) → P i
under P n i h p f = ⊎_elim (λ (e : i ≡ n). subst P (sym e) p) f (eq-or-lt_of_le (le_of_suc-le-suc h))

-- ---- all

module _ (p : ℕ → Bool) where
  pub all_none : all_below 0 p ≡ true
  unfolding all_below
  all_none = refl

  pub all_next : (i : ℕ) → all_below (i + 1) p ≡ (all_below i p && p i)
  unfolding all_below
  all_next i = rw add-one

  -- a loop that leaves at the first number that fails
  pub all_more : (i : ℕ) → all_below i p ≡ true → p i ≡ true → all_below (i + 1) p ≡ true
  all_more i a b = rw (all_next, a, b)

  pub all_fails : (n i : ℕ) → i < n → p i ≡ false → all_below n p ≡ false
  unfolding all_below
  all_fails zero i l e = absurd (not-suc-le-zero l)
  all_fails (suc n) i l e =
      ⊎_elim (λ q. ap (λ (b : Bool). all_below n p && b) (ap p (sym q) ∙ e) ∙ and-false (all_below n p))
      (λ k. ap (λ (b : Bool). b && p n) (all_fails n i k e))
      (eq-or-lt_of_le (le_of_suc-le-suc l))

  pub all_at : (n i : ℕ) → i < n → all_below n p ≡ true → p i ≡ true
  unfolding all_below
  all_at zero i l e = absurd (not-suc-le-zero l)
  all_at (suc n) i l e =
      under (λ k. p k ≡ true) n i l (and_right (all_below n p) (p n) e) (λ k. all_at n i k (and_left (all_below n p) (p n) e))

  pub all_true : (n : ℕ) → ((i : ℕ) → i < n → p i ≡ true) → all_below n p ≡ true
  unfolding all_below
  all_true zero h = refl
  all_true (suc n) h = rw (all_true n (λ i l. h i (omega arith)), h n (le_refl _))

  -- the loop's end: the number reached is the bound
  pub all_done : {i n : ℕ} {b : Bool} → i ≤ n → n ≤ i → b ≡ all_below i p → b ≡ all_below n p
  all_done {i} {n} {b} a z e = subst (λ (k : ℕ). b ≡ all_below k p) (le_antisymm a z) e

-- ---- some

module _ (p : ℕ → Bool) where
  pub some_none : some_below 0 p ≡ false
  unfolding some_below
  some_none = refl

  pub some_next : (i : ℕ) → some_below (i + 1) p ≡ (some_below i p || p i)
  unfolding some_below
  some_next i = rw add-one

  pub some_found : (n i : ℕ) → i < n → p i ≡ true → some_below n p ≡ true
  unfolding some_below
  some_found zero i l e = absurd (not-suc-le-zero l)
  some_found (suc n) i l e =
      ⊎_elim (λ q. ap (λ (b : Bool). some_below n p || b) (ap p (sym q) ∙ e) ∙ or-true (some_below n p))
      (λ k. ap (λ (b : Bool). b || p n) (some_found n i k e))
      (eq-or-lt_of_le (le_of_suc-le-suc l))

  pub some_never : (n i : ℕ) → i < n → some_below n p ≡ false → p i ≡ false
  unfolding some_below
  some_never zero i l e = absurd (not-suc-le-zero l)
  some_never (suc n) i l e =
      under (λ k. p k ≡ false) n i l (or_false_right (some_below n p) (p n) e) (λ k. some_never n i k (or_false_left (some_below n p) (p n) e))

  pub some_false : (n : ℕ) → ((i : ℕ) → i < n → p i ≡ false) → some_below n p ≡ false
  unfolding some_below
  some_false zero h = refl
  some_false (suc n) h = rw (some_false n (λ i l. h i (omega arith)), h n (le_refl _))

pub some_ext : (n : ℕ) (p q : ℕ → Bool) → ((i : ℕ) → i < n → p i ≡ q i) → some_below n p ≡ some_below n q
unfolding some_below
some_ext zero p q h = refl
some_ext (suc n) p q h = ap₂ ◌||◌ (some_ext n p q (λ i l. h i (omega arith))) (h n (le_refl _))

pub all_ext : (n : ℕ) (p q : ℕ → Bool) → ((i : ℕ) → i < n → p i ≡ q i) → all_below n p ≡ all_below n q
unfolding all_below
all_ext zero p q h = refl
all_ext (suc n) p q h = ap₂ ◌&&◌ (all_ext n p q (λ i l. h i (omega arith))) (h n (le_refl _))

-- ---- count and sum

module _ (p : ℕ → Bool) where
  pub count_none : count_below 0 p ≡ 0
  unfolding count_below
  count_none = refl

  pub count_next : (i : ℕ) → count_below (i + 1) p ≡ count_below i p + bit (p i)
  unfolding count_below
  count_next i = rw add-one

  pub count_le : (i : ℕ) → count_below i p ≤ i
  unfolding count_below
  count_le zero = omega arith
  count_le (suc i) = omega (arith, count_le i, bit_le (p i))

  pub count_some : (n i : ℕ) → i < n → p i ≡ true → 0 < count_below n p
  unfolding count_below
  count_some zero i l e = absurd (not-suc-le-zero l)
  count_some (suc n) i l e = ⊎_elim
      (λ q. let z : bit (p n) ≡ 1 = rw (← q, e) in omega arith)
      (λ k. let r = count_some n i k e in omega arith)
      (eq-or-lt_of_le (le_of_suc-le-suc l))

pub count_ext : (n : ℕ) (p q : ℕ → Bool) → ((i : ℕ) → i < n → p i ≡ q i) → count_below n p ≡ count_below n q
unfolding count_below
count_ext zero p q h = refl
count_ext (suc n) p q h = ap₂ ◌+◌ (count_ext n p q (λ i l. h i (omega arith))) (ap bit (h n (le_refl _)))

module _ (f : ℕ → ℕ) where
  pub sum_none : sum_below 0 f ≡ 0
  unfolding sum_below
  sum_none = refl

  pub sum_next : (i : ℕ) → sum_below (i + 1) f ≡ sum_below i f + f i
  unfolding sum_below
  sum_next i = rw add-one

  sum_up : (i k : ℕ) → sum_below i f ≤ sum_below (i + k) f
  unfolding sum_below
  sum_up i zero = rw add-zero (le_refl _)
  sum_up i (suc k) = let r = sum_up i k in rw add-suc (omega arith)

  pub sum_mono : (i n : ℕ) → i ≤ n → sum_below i f ≤ sum_below n f
  sum_mono i n h = let e : i + (n - i) ≡ n = omega arith in rw e at (sum_up i (n - i))

  -- a sum of numbers of at most m each
  pub sum_le : (m n : ℕ) → ((i : ℕ) → i < n → f i ≤ m) → sum_below n f ≤ m * n
  unfolding sum_below
  sum_le m zero h = omega arith
  sum_le m (suc n) h = omega (arith, sum_le m n (λ i l. h i (omega arith)), h n (le_refl _), mul-suc m n)

pub sum_ext : (n : ℕ) (f g : ℕ → ℕ) → ((i : ℕ) → i < n → f i ≡ g i) → sum_below n f ≡ sum_below n g
unfolding sum_below
sum_ext zero f g h = refl
sum_ext (suc n) f g h = ap₂ ◌+◌ (sum_ext n f g (λ i l. h i (omega arith))) (h n (le_refl _))

-- ---- the lowest that passes

module _ (p : ℕ → Bool) (j n : ℕ) where
  pub lowest_here : j < n → p j ≡ true → lowest_from p j (n - j) ≡ j
  unfolding lowest_from
  lowest_here h e = let k : n - j ≡ suc (n - (j + 1)) = omega arith in rw (k, e)

  pub lowest_next : j < n → p j ≡ false → lowest_from p j (n - j) ≡ lowest_from p (j + 1) (n - (j + 1))
  unfolding lowest_from
  lowest_next h e = let k : n - j ≡ suc (n - (j + 1)) = omega arith in rw (k, e, add-one)

  pub lowest_end : n ≤ j → lowest_from p j (n - j) ≡ j
  unfolding lowest_from
  lowest_end h = let k : n - j ≡ 0 = omega arith in rw k

-- ---- what each gives

module _ {A : Type 0} where
  pub each_next : (f : ℕ → A) (i : ℕ) → each_below (i + 1) f ≡ each_below i f ++ (f i ∷ [])
  unfolding each_below
  each_next f i = rw add-one

  pub each_long : (n : ℕ) (f : ℕ → A) → length (each_below n f) ≡ n
  unfolding each_below
  each_long zero f = refl
  each_long (suc n) f = length-append (each_below n f) (f n ∷ []) ∙ rw (each_long n f) (add-one n)

  pub each_at : (n : ℕ) (f : ℕ → A) (d : A) (j : ℕ) → j < n → get_or (each_below n f) j d ≡ f j
  unfolding each_below
  each_at zero f d j h = absurd (not-suc-le-zero h)
  each_at (suc n) f d j h =
      ⊎_elim
      (λ q. ap (λ (k : ℕ). get_or (each_below n f ++ (f n ∷ [])) k d) q ∙ get_or_at (each_below n f) (f n) [] d n (each_long n f) ∙ ap f (sym q))
      (λ l. get_or-append (each_below n f) (f n ∷ []) d j (rw (each_long n f) l) ∙ each_at n f d j l)
      (eq-or-lt_of_le (le_of_suc-le-suc h))

  pub each_past : (n : ℕ) (f : ℕ → A) (d : A) (j : ℕ) → n ≤ j → get_or (each_below n f) j d ≡ d
  each_past n f d j h = get_or-eq_default (each_below n f) d (rw each_long h)

  pub each_ext : (n : ℕ) (f g : ℕ → A) → ((i : ℕ) → i < n → f i ≡ g i) → each_below n f ≡ each_below n g
  unfolding each_below
  each_ext zero f g h = refl
  each_ext (suc n) f g h = ap₂ (λ (xs : List A) (x : A). xs ++ (x ∷ [])) (each_ext n f g (λ i l. h i (omega arith))) (h n (le_refl _))

  -- a list is what its places give
  pub each_back : (l : List A) (d : A) → each_below (length l) (λ i. get_or l i d) ≡ l
  each_back l d = ext_get_or d (each_below (length l) (λ i. get_or l i d)) l (each_long (length l) (λ i. get_or l i d))
      (λ i h. each_at (length l) (λ i. get_or l i d) d i (rw each_long at h))

  -- ---- an array that is filled from the front, and blank after that

  pub filled_none : (f : ℕ → A) (n : ℕ) (b : A) → replicate n b ≡ filled f 0 n b
  unfolding filled each_below
  filled_none f n b = rw sub-zero

  pub filled_more : (f : ℕ → A) (i n : ℕ) (b : A) → i < n → set (filled f i n b) i (f i) ≡ filled f (i + 1) n b
  unfolding filled each_below
  filled_more f i n b h =
      let e : n - i ≡ suc (n - (i + 1)) = omega arith in
      let r = replicate (n - (i + 1)) b in
      ap (λ (k : ℕ). set (each_below i f ++ replicate k b) i (f i)) e
      ∙ set_at (each_below i f) b r (f i) i (each_long i f)
      ∙ sym (append_snoc (each_below i f) (f i) r)
      ∙ ap (λ (k : ℕ). each_below k f ++ r) (sym (add-one i))

  pub filled_at : (f : ℕ → A) (i n : ℕ) (b d : A) (j : ℕ) → j < i → get_or (filled f i n b) j d ≡ f j
  unfolding filled
  filled_at f i n b d j h = get_or-append (each_below i f) (replicate (n - i) b) d j (rw (each_long i f) h) ∙ each_at i f d j h

  blank_at : (k : ℕ) (b : A) (j : ℕ) → get_or (replicate k b) j b ≡ b
  blank_at zero b j = refl
  blank_at (suc k) b zero = refl
  blank_at (suc k) b (suc j) = blank_at k b j

  tail_blank : (xs : List A) (k : ℕ) (b : A) (j : ℕ) → get_or (xs ++ replicate k b) j b ≡ get_or xs j b
  tail_blank [] k b j = blank_at k b j
  tail_blank (x ∷ xs) k b zero = refl
  tail_blank (x ∷ xs) k b (suc j) = tail_blank xs k b j

  -- asked with its blank, an array says what the list of its filled part says
  pub filled_is : (f : ℕ → A) (i n : ℕ) (b : A) (j : ℕ) → get_or (filled f i n b) j b ≡ get_or (each_below i f) j b
  unfolding filled
  filled_is f i n b j = tail_blank (each_below i f) (n - i) b j

module _ {A B : Type 0} (h : A → B) (n : ℕ) (f : ℕ → A) (d : A) (j : ℕ) where
  -- what is made of an element is an element of what is made
  pub each_map : h (get_or (each_below n f) j d) ≡ get_or (each_below n (λ i. h (f i))) j (h d)
  each_map = elim (ordered j n) [
    | less l t ↦ ap h (each_at n f d j l) ∙ sym (each_at n (λ i. h (f i)) (h d) j l)
    | more l t ↦ ap h (each_past n f d j l) ∙ sym (each_past n (λ i. h (f i)) (h d) j l)
  ]

-- ---- lists one after the other

module _ {A : Type 0} where
  pub concat_none : (f : ℕ → List A) → concat_below 0 f ≡ []
  unfolding concat_below
  concat_none f = refl

  pub concat_next : (f : ℕ → List A) (i : ℕ) → concat_below (i + 1) f ≡ concat_below i f ++ f i
  unfolding concat_below
  concat_next f i = rw add-one

  pub concat_ext : (n : ℕ) (f g : ℕ → List A) → ((i : ℕ) → i < n → f i ≡ g i) → concat_below n f ≡ concat_below n g
  unfolding concat_below
  concat_ext zero f g h = refl
  concat_ext (suc n) f g h = ap₂ ◌++◌ (concat_ext n f g (λ i l. h i (omega arith))) (h n (le_refl _))

  -- the first i and the k after them
  pub concat_split : (f : ℕ → List A) (i k : ℕ) → concat_below (i + k) f ≡ concat_below i f ++ concat_below k (λ j. f (i + j))
  unfolding concat_below
  concat_split f i zero = rw add-zero (sym (append-nil (concat_below i f)))
  concat_split f i (suc k) =
      rw (add-suc, concat_split f i k) (append_assoc (concat_below i f) (concat_below k (λ j. f (i + j))) (f (i + k)))

  pub concat_long : (n : ℕ) (f : ℕ → List A) → length (concat_below n f) ≡ sum_below n (λ i. length (f i))
  unfolding concat_below sum_below
  concat_long zero f = refl
  concat_long (suc n) f = length-append (concat_below n f) (f n) ∙ ap (λ (k : ℕ). k + length (f n)) (concat_long n f)

  -- what is written so far is no longer than the whole
  pub concat_mono : (f : ℕ → List A) (i n : ℕ) → i ≤ n → length (concat_below i f) ≤ length (concat_below n f)
  concat_mono f i n h = rw (concat_long, concat_long) (sum_mono (λ i. length (f i)) i n h)
