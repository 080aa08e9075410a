-- Where snakes start on a grid that is not negative, in plain numbers; from side 3 on every start is inside. Assumes nothing.
use Prim.Native.Nat.{ℕ, zero, suc, ◌*◌, ◌-◌, ◌/◌, ◌<◌, ◌≤◌, suc-le-suc}
use native.Mathlib.Nat.{div-le_self, div-lt_iff_lt-mul, mul_comm, mul-lt-mul_of_pos_right, zero-lt-suc}
use mathlib.Core.Logic.{inl, inr}
use native.Mathlib.Omega.{arith}
use mathlib.Core.Path.{◌≡◌, refl, sym, ap, ◌∙◌}
use mathlib.Core.Bool.{true, false, true≢false, false≢true}
use lib.Dec.{T, eqb}
use lib.IntN.{ℤ, pos, negsuc, nat_abs, ◌-ℤ◌}
use lib.Signed.{lt_z, non_neg}
use borrow.Author.Tests.{le-ltb, ltb-false, ltb-true}
use Rattle.lists.proofs.Tests.{both, tell}
use Rattle.rules.specs.Grid.{within, inside}
use Rattle.rules.specs.Placement.{row_of, even, col_of, start_place}
use Rattle.rules.specs.Setting.{side_of}
use Rattle.rules.proofs.Grid.{within_pos}

-- ---- the side

pub side_negative : (g : ℤ) → lt_z g (pos 0) ≡ true → side_of g ≡ 0
side_negative (pos g) h = absurd (false≢true (sym (le-ltb g 0 (omega arith)) ∙ h))
side_negative (negsuc g) h = refl

pub plain_grid : (g : ℤ) → lt_z g (pos 0) ≡ false → T (non_neg g)
plain_grid (pos g) h = tt
plain_grid (negsuc g) h = absurd (true≢false h)

pub side_plain : (g : ℤ) → lt_z g (pos 0) ≡ false → nat_abs g ≡ side_of g
side_plain (pos g) h = refl
side_plain (negsuc g) h = absurd (true≢false h)

-- ---- the columns

minus : (a b : ℕ) → b ≤ a → pos (a - b) ≡ pos a -ℤ pos b
minus a zero h = ap pos (omega arith)
minus a (suc b) h = rw (le-ltb a (suc b) h)

pub col_even : (g i : ℕ) → even i ≡ true → pos (g / 3) ≡ col_of (pos g) i
col_even g i e = rw e

pub col_odd : (g i : ℕ) → even i ≡ false → pos (g - g / 3) ≡ col_of (pos g) i
col_odd g i e = rw e (minus g (g / 3) (div-le_self g 3))

-- ---- a grid of at most 32

pub side_small : (g : ℤ) → lt_z (pos 32) g ≡ false → side_of g ≤ 32
side_small (pos g) h = ltb-false 32 g h
side_small (negsuc g) h = omega arith

-- ---- every start is inside

module _ (g n i : ℕ) (side : 3 ≤ g) (number : i < n) where
  row_below_side : suc i * g / suc n < g
  row_below_side =
      let m : suc i * g < suc n * g = mul-lt-mul_of_pos_right (suc-le-suc number) (omega arith) in
      let c : suc n * g ≡ g * suc n = mul_comm (suc n) g in
      (div-lt_iff_lt-mul {k = suc n} {x = suc i * g} {y = g} (zero-lt-suc n)).1 (rw c at m)

  row_in_grid : within (pos g) (row_of (pos g) n i) ≡ true
  row_in_grid = elim (tell (eqb n 2)) [
    | inl t ↦ rw t (within_pos g (g / 2) (omega arith))
    | inr f ↦ rw f (within_pos g (suc i * g / suc n) row_below_side)
  ]

  col_in_grid : within (pos g) (col_of (pos g) i) ≡ true
  col_in_grid = elim (tell (even i)) [
    | inl t ↦ rw (← col_even g i t) (within_pos g (g / 3) (omega arith))
    | inr f ↦ rw (← col_odd g i f) (within_pos g (g - g / 3) (omega arith))
  ]

  pub start_inside : inside (pos g) (start_place (pos g) n i) ≡ true
  start_inside = both row_in_grid col_in_grid

-- ---- a grid by its side

pub grid_two : (g : ℤ) → lt_z g (pos 2) ≡ false → lt_z g (pos 3) ≡ true → g ≡ pos 2
grid_two (pos g) h l = ap pos (omega (arith, ltb-false g 2 h, ltb-true g 3 l))
grid_two (negsuc g) h l = absurd (true≢false h)

pub grid_side : (g : ℤ) → lt_z g (pos 3) ≡ false → g ≡ pos (side_of g)
grid_side (pos g) h = refl
grid_side (negsuc g) h = absurd (true≢false h)

pub side_three : (g : ℤ) → lt_z g (pos 3) ≡ false → 3 ≤ side_of g
side_three (pos g) h = ltb-false g 3 h
side_three (negsuc g) h = absurd (true≢false h)

pub side_plain_three : (g : ℤ) → lt_z g (pos 3) ≡ false → T (non_neg g)
side_plain_three (pos g) h = tt
side_plain_three (negsuc g) h = absurd (true≢false h)

pub side_abs : (g : ℤ) → lt_z g (pos 3) ≡ false → nat_abs g ≡ side_of g
side_abs (pos g) h = refl
side_abs (negsuc g) h = absurd (true≢false h)
