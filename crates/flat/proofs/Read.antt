-- What a caller's numbers are read as, part by part. Assumes nothing.
use Rattle.std.specs.Prelude.{Option, Some, None}
use Prim.Native.Nat.{ℕ, ◌-◌, ◌<◌, ◌≤◌}
use mathlib.Core.Path.{◌≡◌, ◌∙◌}
use mathlib.Core.Bool.{not}
use mathlib.Core.List.{List}
use native.Mathlib.Omega.{arith}
use borrow.Author.Tests.{eq-eqb, ne_eqb, lt-ltb, le-ltb}
use lib.Dec.{eqb}
use lib.IntN.{ℤ, pos, negsuc, ◌-ℤ◌}
use lib.ListN.{get_or}
use mir.Facts.{to_z_pos, to_z-of_z}
use mir.Syntax.{w32}
use mir.Val.{to_z, of_z, SFits}
use Rattle.lists.proofs.Signs.{minus_one}
use Rattle.flat.specs.Flat.{limit_in, grid_in, setting_in}

-- ---- a limit

pub is_unset : (set n : ℕ) → set ≡ 0 → None ≡ limit_in set n
is_unset set n e = rw (eq-eqb set 0 e)

pub is_set : (set n : ℕ) → (set ≡ 0 → ⊥) → Some n ≡ limit_in set n
is_set set n e = rw (ne_eqb set 0 e)

-- ---- a grid

module _ (n : ℕ) where
  grid_itself : n < 2147483648 → pos n ≡ grid_in n
  unfolding grid_in
  grid_itself h = rw (lt-ltb n 2147483648 h)

  pub small_grid : n < 2147483648 → to_z w32 n ≡ grid_in n
  small_grid h = to_z_pos w32 (omega arith) ∙ grid_itself h

  pub no_grid : 2147483648 ≤ n → n < 18446744071562067968 → pos 2147483647 ≡ grid_in n
  unfolding grid_in
  no_grid h k = rw (le-ltb n 2147483648 h, lt-ltb n 18446744071562067968 k)

  low_side : 18446744071562067968 ≤ n → negsuc 0 -ℤ to_z w32 (18446744073709551615 - n) ≡ negsuc (18446744073709551615 - n)
  low_side h =
      let p : to_z w32 (18446744073709551615 - n) ≡ pos (18446744073709551615 - n) = to_z_pos w32 (omega arith) in
      rw p (minus_one (18446744073709551615 - n))

  pub low_grid_fits : 18446744071562067968 ≤ n → SFits w32 (negsuc 0 -ℤ to_z w32 (18446744073709551615 - n))
  low_grid_fits h = rw (low_side h) (record { sfits = omega arith })

  pub low_grid : 18446744071562067968 ≤ n → to_z w32 (of_z w32 (negsuc 0 -ℤ to_z w32 (18446744073709551615 - n))) ≡ grid_in n
  unfolding grid_in
  low_grid h = to_z-of_z {w = w32} (low_grid_fits h) ∙ rw (le-ltb n 2147483648 (omega arith), le-ltb n 18446744071562067968 h) (low_side h)

-- ---- a setting, an event

pub setting_read : (s : List ℕ) (g h : ℤ) (lead ticks : Option ℕ) → g ≡ grid_in (get_or s 1 0) → h ≡ g → lead ≡ limit_in (get_or s 4 0) (get_or s 5 0) → ticks ≡ limit_in (get_or s 7 0) (get_or s 8 0)
    → record {
      num_snakes = get_or s 0 0;
      grid_size = h;
      initial_length = get_or s 2 0;
      play_to_last = not (eqb (get_or s 3 0) 0);
      win_food_lead = lead;
      initial_food_count = get_or s 6 0;
      max_ticks = ticks;
    } ≡ setting_in s
setting_read s g h lead ticks p q l t = rw (q, p, l, t)
