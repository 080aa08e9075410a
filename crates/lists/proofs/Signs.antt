-- Tests of order on integers, one from the other; how far a number is from zero; one less than a negative. Assumes nothing.
use mathlib.Core.Path.{◌≡◌, refl, ap}
use mathlib.Core.Bool.{true, false, true≢false, false≢true}
use lib.IntN.{ℤ, pos, negsuc, suc_ℤ, pred_ℤ, ◌-ℤ◌}
use Prim.Native.Nat.{ℕ, zero, suc, ◌≤◌}
use native.Mathlib.Nat.{zero-add}
use native.Mathlib.Omega.{arith}
use lib.Signed.{le_z, lt_z, mag}
use borrow.Author.Tests.{ltb-true, ltb-false, le-leb, lt-leb}

pub lt_not_le : (a b : ℤ) → lt_z a b ≡ true → le_z b a ≡ false
lt_not_le (pos a) (pos b) h = lt-leb b a (ltb-true a b h)
lt_not_le (pos a) (negsuc b) h = absurd (false≢true h)
lt_not_le (negsuc a) (pos b) h = refl
lt_not_le (negsuc a) (negsuc b) h = lt-leb a b (ltb-true b a h)

pub not_lt_le : (a b : ℤ) → lt_z a b ≡ false → le_z b a ≡ true
not_lt_le (pos a) (pos b) h = le-leb b a (ltb-false a b h)
not_lt_le (pos a) (negsuc b) h = refl
not_lt_le (negsuc a) (pos b) h = absurd (true≢false h)
not_lt_le (negsuc a) (negsuc b) h = le-leb a b (ltb-false b a h)

pub mag_suc : (z : ℤ) → mag (suc_ℤ z) ≤ suc (mag z)
mag_suc (pos n) = omega arith
mag_suc (negsuc zero) = omega arith
mag_suc (negsuc (suc n)) = omega arith

pub mag_pred : (z : ℤ) → mag (pred_ℤ z) ≤ suc (mag z)
mag_pred (pos zero) = omega arith
mag_pred (pos (suc n)) = omega arith
mag_pred (negsuc n) = omega arith

pub minus_one : (m : ℕ) → negsuc 0 -ℤ pos m ≡ negsuc m
minus_one zero = refl
minus_one (suc k) = ap (λ (j : ℕ). negsuc (suc j)) (zero-add k)
