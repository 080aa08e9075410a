-- Products that count orders: the next factor is the last, the first, and a product never shrinks. Assumes nothing.
use mathlib.Core.Path.{◌≡◌, refl, sym}
use mathlib.Core.Logic.{inl, inr}
use Prim.Native.Nat.{ℕ, zero, suc, ◌+◌, ◌-◌, ◌*◌, ◌≤◌, ◌<◌}
use native.Mathlib.Nat.{zero-mul, mul_assoc, mul_comm, suc-sub-suc, zero-lt-suc, not-suc-le-zero, mul-pos, mul-le-mul, le_of_suc-le-suc, le_refl, le_trans, eq-or-lt_of_le, le-mul_of_pos_right}
use native.Mathlib.Numerals.{add-one}
use native.Mathlib.Omega.{arith}
use lib.Arith.{le-zero}
use Rattle.lists.specs.Products.{falling, factorial}

pub falling_none : (n : ℕ) → falling n 0 ≡ 1
unfolding falling
falling_none n = refl

-- the next factor is the last
pub falling_last : (n k : ℕ) → falling n (suc k) ≡ falling n k * (n - k)
unfolding falling
falling_last zero zero = refl
falling_last zero (suc k) = sym (zero-mul _)
falling_last (suc n) zero = omega arith
falling_last (suc n) (suc k) = rw (falling_last n k, suc-sub-suc) (sym (mul_assoc _ _ _))

pub falling_next : (n k : ℕ) → falling n (k + 1) ≡ falling n k * (n - k)
falling_next n k = rw add-one (falling_last n k)

-- the first factor
pub falling_first : (n k : ℕ) → falling n (suc k) ≡ n * falling (n - 1) k
unfolding falling
falling_first zero k = sym (zero-mul _)
falling_first (suc n) k = let e : suc n - 1 ≡ n = omega arith in rw e

pub falling_self : (k : ℕ) → falling k k ≡ factorial k
unfolding falling factorial
falling_self zero = refl
falling_self (suc k) = rw (falling_self k)

-- a number below a product: there is a factor
pub pos_left : (a b i : ℕ) → i < a * b → zero < a
pos_left zero b i h = absurd (not-suc-le-zero (rw zero-mul at h))
pos_left (suc a) b i h = omega arith

pub pos_right : (a b i : ℕ) → i < a * b → zero < b
pos_right a b i h = pos_left b a i (rw mul_comm at h)

pub falling_open : (n k i : ℕ) → i < falling n (suc k) → (m : ℕ) × (n ≡ suc m) × (i < suc m * falling m k)
unfolding falling
falling_open zero k i h = absurd (not-suc-le-zero h)
falling_open (suc m) k i h = (m, refl, h)

pub falling_pos : (n k : ℕ) → k ≤ n → zero < falling n k
unfolding falling
falling_pos n zero h = zero-lt-suc 0
falling_pos zero (suc k) h = absurd (not-suc-le-zero h)
falling_pos (suc n) (suc k) h = mul-pos (zero-lt-suc n) (falling_pos n k (le_of_suc-le-suc h))

-- more factors, no smaller product: one that has passed a limit stays above it
pub falling_mono : (n j k : ℕ) → j ≤ k → k ≤ n → falling n j ≤ falling n k
falling_mono n j zero h g = rw (le-zero h) (le_refl _)
falling_mono n j (suc k) h g = elim (eq-or-lt_of_le h) [
  | inl e ↦ rw e (le_refl _)
  | inr l ↦
      le_trans (falling_mono n j k (le_of_suc-le-suc l) (omega arith)) (rw (falling_last n k) (le-mul_of_pos_right (falling n k) (omega arith)))
]

-- k factors are least where they end at 1
pub falling_least : (n k : ℕ) → k ≤ n → factorial k ≤ falling n k
unfolding falling factorial
falling_least n zero h = le_refl 1
falling_least zero (suc k) h = absurd (not-suc-le-zero h)
falling_least (suc n) (suc k) h = mul-le-mul h (falling_least n k (le_of_suc-le-suc h))
