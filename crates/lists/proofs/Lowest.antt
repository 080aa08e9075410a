-- The lowest number that passes: the first of which the test holds. Assumes nothing.
use mathlib.Core.Path.{◌≡◌, refl, sym, ◌∙◌}
use mathlib.Core.Bool.{Bool, true, false, not, cond, true≢false}
use Prim.Native.Nat.{ℕ, zero, suc, ◌+◌, ◌-◌, ◌<◌, ◌≤◌}
use native.Mathlib.Nat.{add-zero, sub-zero}
use native.Mathlib.Omega.{arith}
use lib.Dec.{ltb}
use borrow.Author.Tests.{not-true, not-false, lt-ltb, le-ltb}
use Rattle.lists.specs.Below.{all_below, some_below, lowest_from}
use Rattle.lists.proofs.Tests.{compared, same, other, ordered, less, more}
use Rattle.lists.proofs.Below.{lowest_here, lowest_next, lowest_end, all_fails, all_true, all_at, some_found, some_false}

pub lowest_is : (p : ℕ → Bool) (j k n : ℕ) → k < n → p (j + k) ≡ true → ((i : ℕ) → i < k → p (j + i) ≡ false) → lowest_from p j n ≡ j + k
unfolding lowest_from
lowest_is p j zero zero h e f = absurd (native.Mathlib.Nat.not-suc-le-zero h)
lowest_is p j (suc k) zero h e f = absurd (native.Mathlib.Nat.not-suc-le-zero h)
lowest_is p j zero (suc n) h e f = rw (rw add-zero at e) (omega arith)
lowest_is p j (suc k) (suc n) h e f =
    let z : p j ≡ false = rw add-zero at (f 0 (omega arith)) in
    let s : j + suc k ≡ suc j + k = omega arith in
    rw z (lowest_is p (suc j) k n (omega arith) (rw s at e) (λ i l. let q : j + suc i ≡ suc j + i = omega arith in rw q at (f (suc i) (omega arith))) ∙ omega arith)

-- ---- what it tells: it is not past the end, before it none passes, and where it is not the end it passes

module _ (p : ℕ → Bool) where
  pub lowest_le : (j k : ℕ) → lowest_from p j k ≤ j + k
  unfolding lowest_from
  lowest_le j zero = omega arith
  lowest_le j (suc k) = go (p j) (lowest_le (suc j) k)
    where
      go : (b : Bool) → lowest_from p (suc j) k ≤ suc j + k → cond b j (lowest_from p (suc j) k) ≤ j + suc k
      go true h = omega arith
      go false h = omega arith

  pub lowest_before : (j k i : ℕ) → j ≤ i → i < lowest_from p j k → p i ≡ false
  unfolding lowest_from
  lowest_before j zero i a h = absurd (omega (arith, h))
  lowest_before j (suc k) i a h = go (p j) refl (λ b g. lowest_before (suc j) k i b g) h
    where
      go : (b : Bool) → p j ≡ b → (j < i → i < lowest_from p (suc j) k → p i ≡ false) → i < cond b j (lowest_from p (suc j) k) → p i ≡ false
      go true e f g = absurd (omega (arith, g))
      go false e f g = elim (compared i j) [ same q t ↦ rw q e | other n t ↦ f (omega arith) g ]

  pub lowest_passes : (j k : ℕ) → lowest_from p j k < j + k → p (lowest_from p j k) ≡ true
  unfolding lowest_from
  lowest_passes j zero h = absurd (omega (arith, h))
  lowest_passes j (suc k) h = go (p j) refl (λ g. lowest_passes (suc j) k g) h
    where
      go : (b : Bool) → p j ≡ b → (lowest_from p (suc j) k < suc j + k → p (lowest_from p (suc j) k) ≡ true) → cond b j (lowest_from p (suc j) k) < j + suc k
          → p (cond b j (lowest_from p (suc j) k)) ≡ true
      go true e f g = e
      go false e f g = f (omega arith)

module _ (p : ℕ → Bool) (n : ℕ) where
  -- of all below n
  pub none_lower : (k : ℕ) → k < lowest_from p 0 n → p k ≡ false
  none_lower k h = lowest_before p 0 n k (omega arith) h

  pub lowest_holds : lowest_from p 0 n < n → p (lowest_from p 0 n) ≡ true
  lowest_holds h = lowest_passes p 0 n (omega arith)

  -- some one passes exactly where the lowest is one of them
  pub some_lowest : some_below n p ≡ ltb (lowest_from p 0 n) n
  some_lowest = elim (ordered (lowest_from p 0 n) n) [
    | less l t ↦ some_found p n (lowest_from p 0 n) l (lowest_holds l) ∙ sym (lt-ltb (lowest_from p 0 n) n l)
    | more l t ↦ some_false p n (λ k h. none_lower k (omega arith)) ∙ sym (le-ltb (lowest_from p 0 n) n l)
  ]

-- tests that agree have one lowest
module _ (p q : ℕ → Bool) where
  lowest_ext : (j n : ℕ) → ((k : ℕ) → j ≤ k → k < j + n → p k ≡ q k) → lowest_from p j n ≡ lowest_from q j n
  unfolding lowest_from
  lowest_ext j zero h = omega arith
  lowest_ext j (suc n) h =
      let e = h j (omega arith) (omega arith) in
      let r = lowest_ext (suc j) n (λ k o l. h k (omega arith) (omega arith)) in
      λ t. cond (e t) j (r t)

  pub lowest_same : (n : ℕ) → ((k : ℕ) → k < n → p k ≡ q k) → lowest_from p 0 n ≡ lowest_from q 0 n
  lowest_same n h = lowest_ext 0 n (λ k o l. h k (omega arith))

-- of the numbers below n: one fails exactly where the lowest that fails is below n
module _ (fits : ℕ → Bool) (n : ℕ) where
  abbrev out : ℕ
  out = lowest_from (λ i. not (fits i)) 0 n

  pub some_out : out < n → all_below n fits ≡ false
  some_out h = all_fails fits n out h (not-true (fits out) (lowest_holds (λ i. not (fits i)) n h))

  -- a loop that leaves at the first that fails
  pub out_here : (i : ℕ) → i < n → all_below i fits ≡ true → fits i ≡ false → i ≡ out
  out_here i l a e =
      let z : (k : ℕ) → 0 + k ≡ k = λ k. omega arith in
      sym (lowest_is (λ k. not (fits k)) 0 i n l (rw (z i, e)) (λ k h. rw (z k, all_at fits i k h a)) ∙ z i)

  pub out_none : (i : ℕ) → i ≤ n → n ≤ i → all_below i fits ≡ true → i ≡ out
  out_none i b l a = elim (ordered out n) [
    | less h t ↦ absurd (true≢false (sym (lowest_holds (λ k. not (fits k)) n h) ∙ rw (all_at fits i out (omega arith) a)))
    | more h t ↦ omega (arith, lowest_le (λ k. not (fits k)) 0 n)
  ]

  pub none_out : n ≤ out → all_below n fits ≡ true
  none_out h = all_true fits n (λ i l. not-false (fits i) (none_lower (λ i. not (fits i)) n i (omega arith)))

-- ---- a loop that looks for it: none before i passes, so the lowest from i on is x

pub record Passing (p : ℕ → Bool) (x n i : ℕ) : Type 0 where
  pub so_far : x ≡ lowest_from p i (n - i)

module _ (p : ℕ → Bool) (n : ℕ) where
  pub pass_none : Passing p (lowest_from p 0 n) n 0
  pass_none = record { so_far = rw sub-zero }

  pub pass_from : (j : ℕ) → Passing p (lowest_from p j (n - j)) n j
  pass_from j = record { so_far = refl }

  module _ (x i : ℕ) (q : Passing p x n i) where
    pub pass_here : i < n → p i ≡ true → i ≡ x
    pass_here l e = sym (q.so_far ∙ lowest_here p i n l e)

    pub pass_on : i < n → p i ≡ false → Passing p x n (i + 1)
    pass_on l e = record { so_far = q.so_far ∙ lowest_next p i n l e }

    pub pass_all : n ≤ i → i ≡ x
    pass_all l = sym (q.so_far ∙ lowest_end p i n l)
