-- Rows, columns and cells of a square of side g: cell = row · g + column. Assumes nothing.
use Prim.Native.Nat.{ℕ, zero, suc, ◌+◌, ◌-◌, ◌*◌, ◌/◌, ◌%◌, ◌<◌}
use mathlib.Core.Path.{◌≡◌, sym, ap, ◌∙◌}
use native.Mathlib.Omega.{arith}
use native.Mathlib.Nat.{mul-le-mul_right, suc-mul, add-mul, add-zero, mod-lt, mod-eq_of_lt, div-eq_of_lt, div-lt_iff_lt-mul, div-add-mod', mul-add-div_right, mul-add-mod_self_right}

pub side_pos : (g cell : ℕ) → cell < g * g → 0 < g
side_pos zero cell h = omega arith
side_pos (suc g) cell h = omega arith

module _ (g cell : ℕ) (h : cell < g * g) where
  pub row_lt : cell / g < g
  row_lt = (div-lt_iff_lt-mul (side_pos g cell h)).1 h

  pub col_lt : cell % g < g
  col_lt = mod-lt cell (side_pos g cell h)

pub cell_is : (g cell : ℕ) → cell / g * g + cell % g ≡ cell
cell_is g cell = div-add-mod' cell g

module _ (g r c : ℕ) (hc : c < g) where
  pub cell_lt : r < g → r * g + c < g * g
  cell_lt hr = omega (arith, mul-le-mul_right g hr, suc-mul r g)

  pub row_of : (r * g + c) / g ≡ r
  row_of = let p : 0 < g = omega arith in mul-add-div_right p r c ∙ ap (λ (k : ℕ). r + k) (div-eq_of_lt hc) ∙ add-zero r

  pub col_of_lem : (r * g + c) % g ≡ c
  col_of_lem = mul-add-mod_self_right r g c ∙ mod-eq_of_lt hc

-- a row counted from the far end, and the rows before it
pub far_rows : (g r : ℕ) → r < g → (g - 1 - r) * g + r * g + g ≡ g * g
far_rows g r h =
    let e : g - 1 - r + suc r ≡ g = omega arith in
    omega (arith, sym (add-mul (g - 1 - r) (suc r) g) ∙ ap (λ (k : ℕ). k * g) e, suc-mul r g)
