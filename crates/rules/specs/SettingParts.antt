-- The check of a setting in two halves, numbers and places, as code goes about it; each over just what it depends on. Assumes nothing.
use Rattle.std.specs.Prelude.{ℕ, ◌+◌, ◌*◌, ◌≤◌, ◌≡◌, false, List, [], ◌∷◌, map, ltb, ℤ, pos, Ok}
use Rattle.std.specs.Int.Signed.{lt_z}
use Rattle.lists.specs.Choice.{bit}
use Rattle.lists.specs.Below.{concat_below}
use Rattle.rules.specs.Says.{Says, by_table}
use Rattle.rules.specs.Grid.{cell_of}
use Rattle.rules.specs.Headings.{number_of}
use Rattle.rules.specs.Image.{front}
use Rattle.rules.specs.Placement.{start_heading, placed}
use Rattle.rules.specs.Setting.{side_of, area_of, limits_order, places_order}
use Rattle.rules.specs.declared.Setting.{Setting}

-- 1 to 6 and 8
unfoldable pub limits_says : Setting → Says (Unit {0})
limits_says s = by_table (limits_order s) (Ok tt)

-- 9 to 12, for f food
unfoldable pub place_says : ℤ → ℕ → ℕ → ℕ → Says (Unit {0})
place_says g n k f = by_table (places_order g n k f) (Ok tt)

-- what a setting without a fault in 1 to 6 and 8 tells the second half
pub record Limited (s : Setting) : Type 0 where
  pub snakes_min : 2 ≤ s.num_snakes
  pub snakes_max : s.num_snakes ≤ 8
  pub size_min : 1 ≤ s.initial_length
  pub grid_max : lt_z (pos 32) s.grid_size ≡ false
  pub food_max : s.initial_food_count ≤ area_of s

-- a body's cells
abbrev pub cells_of : ℕ → ℕ → ℕ → ℕ → List ℕ
cells_of g n k i = map (cell_of g) (placed (pos g) n k i)

-- the cells of all bodies of a setting
abbrev pub start_cells : Setting → List ℕ
start_cells s = concat_below s.num_snakes (cells_of (side_of s.grid_size) s.num_snakes s.initial_length)

-- the record of snake i, of n snakes of k cells
abbrev pub start_record : ℕ → ℕ → ℕ → List ℕ
start_record n k i = (front n + k * i) ∷ k ∷ number_of (start_heading i) ∷ 1 ∷ []

-- words 0 to 4
abbrev pub start_contents : Setting → List ℕ
start_contents s = s.num_snakes ∷ side_of s.grid_size ∷ s.initial_food_count ∷ bit (ltb 0 s.initial_food_count) ∷ 0 ∷ []
