-- The lines of the replay's input, read (01, 'Replay'). Assumes nothing.
use Rattle.std.specs.Prelude.{ℕ, ℤ, ◌+◌, ◌≤◌, ◌≡◌, Bool, List, ltb, eqb, length, drop, Option, Some, None}
use Rattle.lists.specs.Choice.{◌if◌else◌}
use Rattle.lists.specs.Below.{all_below, filled}
use Rattle.parsing.specs.Numbers.{decimal_of, is_decimal, read_on, grid_of, bound_of, flag_of, is_byte}
use Rattle.parsing.specs.Fields.{fields_of, field_at, pieces_from}
use Rattle.parsing.specs.declared.Line.{Line}
use Rattle.parsing.specs.declared.Line.TheVariants.{Draw, Move}
use Rattle.parsing.specs.declared.Got.{Got}
use Rattle.rules.specs.declared.Setting.{Setting}

-- ---- 'First line: snakes, grid, length, play_to_last, lead, food, max_ticks; `-` means none for lead and max_ticks only'

abbrev pub setting_by : Option ℕ → Option ℤ → Option ℕ → Option Bool → Option (Option ℕ) → Option ℕ → Option (Option ℕ) → Option Setting
setting_by None g l p e f t = None
setting_by (Some n) None l p e f t = None
setting_by (Some n) (Some g) None p e f t = None
setting_by (Some n) (Some g) (Some l) None e f t = None
setting_by (Some n) (Some g) (Some l) (Some p) None f t = None
setting_by (Some n) (Some g) (Some l) (Some p) (Some e) None t = None
setting_by (Some n) (Some g) (Some l) (Some p) (Some e) (Some f) None = None
setting_by (Some n) (Some g) (Some l) (Some p) (Some e) (Some f) (Some t) =
    Some (record { num_snakes = n; grid_size = g; initial_length = l; play_to_last = p; win_food_lead = e; initial_food_count = f; max_ticks = t })

unfoldable pub setting_in : List (List ℕ) → Option Setting
setting_in fs =
    setting_by (decimal_of (field_at fs 0)) (grid_of (field_at fs 1)) (decimal_of (field_at fs 2)) (flag_of (field_at fs 3))
    (bound_of (field_at fs 4)) (decimal_of (field_at fs 5)) (bound_of (field_at fs 6))

-- 'lines up to 200 bytes without the newline'
unfoldable pub read_first : List ℕ → Option Setting
read_first s =
    None if ltb 200 (length s) else
    setting_in (fields_of s) if eqb (length (fields_of s)) 7 else
    None

-- ---- 'Then `d INDEX` or `m` and n actions; another number of actions is 32'

abbrev pub draw_by : Option ℕ → Option Line
draw_by None = None
draw_by (Some n) = Some (Draw n)

unfoldable pub draw_in : List (List ℕ) → Option Line
draw_in fs = draw_by (decimal_of (field_at fs 1)) if eqb (length fs) 2 else None

-- action i is field i + 1
abbrev pub is_action : List (List ℕ) → ℕ → Bool
is_action fs i = is_decimal (field_at fs (i + 1))

abbrev pub action : List (List ℕ) → ℕ → ℕ
action fs i = read_on 0 (field_at fs (i + 1))

unfoldable pub actions_in : ℕ → List (List ℕ) → Option Line
actions_in n fs = Some (Move (filled (action fs) n 8 0)) if all_below n (is_action fs) else None

unfoldable pub move_in : ℕ → List (List ℕ) → Option Line
move_in n fs = actions_in n fs if eqb (length fs) (n + 1) else None

-- `d` is 100, `m` 109
unfoldable pub line_in : ℕ → List (List ℕ) → Option Line
line_in n fs =
    draw_in fs if is_byte 100 (field_at fs 0) else
    move_in n fs if is_byte 109 (field_at fs 0) else
    None

-- a line after the first, in a match of n snakes
unfoldable pub read_later : ℕ → List ℕ → Option Line
read_later n s = None if ltb 200 (length s) else line_in n (fields_of s)

-- ---- one pass: the number at an index, and where the next field starts

pub record Gets (s : List ℕ) (at : ℕ) (r : Got) : Type 0 where
  pub number : r.num ≡ decimal_of (field_at (pieces_from 32 s at) 0)
  pub onward : pieces_from 32 s r.next ≡ drop 1 (pieces_from 32 s at)
  pub inside : r.next ≤ length s + 1

-- the fields from the k-th on start at `at`
pub record Behind (s : List ℕ) (k at : ℕ) : Type 0 where
  pub inside : at ≤ length s + 1
  pub stands : pieces_from 32 s at ≡ drop k (fields_of s)
