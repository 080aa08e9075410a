-- What the number 0 of a setting's check tells: the tests as facts. Assumes nothing.
use Rattle.std.specs.Prelude.{ℕ, ◌+◌, ◌*◌, ◌^◌, ◌<◌, ◌≤◌, ◌≡◌, true, pos, length, Some}
use Rattle.lists.specs.Lists.{all, distinct}
use Rattle.rules.specs.Grid.{inside}
use Rattle.rules.specs.Placement.{placed}
use Rattle.rules.specs.Setting.{side_of, area_of, worst, all_placed}
use Rattle.rules.specs.SettingParts.{start_cells}
use Rattle.rules.specs.declared.Setting.{Setting}

pub record Accepts (s : Setting) : Type 0 where
  pub snakes_min : 2 ≤ s.num_snakes
  pub snakes_max : s.num_snakes ≤ 8
  pub size_min : 1 ≤ s.initial_length
  pub size_max : s.initial_length ≤ area_of s
  pub grid_is : s.grid_size ≡ pos (side_of s.grid_size)
  pub side_min : 3 ≤ side_of s.grid_size
  pub side_max : side_of s.grid_size ≤ 32
  pub lead_min : (k : ℕ) → s.win_food_lead ≡ Some k → 1 ≤ k
  pub lead_two : (k : ℕ) → s.win_food_lead ≡ Some k → s.num_snakes ≡ 2
  pub worst_max : worst s.num_snakes (side_of s.grid_size) s.initial_food_count ≤ 2 ^ 53
  pub long : (i : ℕ) → i < s.num_snakes → length (placed s.grid_size s.num_snakes s.initial_length i) ≡ s.initial_length
  pub within : all (inside s.grid_size) (all_placed s.grid_size s.num_snakes s.initial_length) ≡ true
  pub apart : distinct (start_cells s) ≡ true
  pub total : length (all_placed s.grid_size s.num_snakes s.initial_length) ≡ s.num_snakes * s.initial_length
  pub food_free : s.initial_food_count + s.num_snakes * s.initial_length ≤ area_of s
