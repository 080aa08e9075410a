-- What the writers of the initial state require, and how far the loop over its records is. Assumes nothing.
use Rattle.std.specs.Prelude.{ℕ, ◌+◌, ◌*◌, ◌≤◌, ◌≡◌, List, length}
use Rattle.lists.specs.Below.{concat_below}
use Rattle.lists.specs.Lists.{write_at}
use Rattle.rules.specs.Setting.{setting_check}
use Rattle.rules.specs.SettingParts.{start_cells, start_record}
use Rattle.rules.specs.declared.Setting.{Setting}

-- what the initial state is written from: an accepted setting, and the cells of its bodies
pub record Startable (s : Setting) (cells : List ℕ) : Type 0 where
  pub accepted : setting_check s ≡ 0
  pub placed : cells ≡ start_cells s
  pub snakes : s.num_snakes ≤ 8
  pub few : length cells ≤ 1024

-- numbers that words hold, and a buffer that the image fits
pub record Room (n g food size : ℕ) (cells out : List ℕ) : Type 0 where
  pub snakes : n ≤ 8
  pub side : g ≤ 32
  pub due : food ≤ 1024
  pub few : size ≤ 1024
  pub words : 5 + 4 * n + length cells ≤ length out

-- the same for the records alone
pub record RecordRoom (n size : ℕ) (out : List ℕ) : Type 0 where
  pub snakes : n ≤ 8
  pub few : size ≤ 1024
  pub words : 5 + 4 * n ≤ length out

-- the first i of n records are written: old has become new
pub record RecordsWritten (n size i : ℕ) (old new : List ℕ) : Type 0 where
  pub within : i ≤ n
  pub long : length new ≡ length old
  pub records : new ≡ write_at old 5 (concat_below i (start_record n size))
