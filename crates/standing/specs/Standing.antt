-- How a match stands: the moves made, the move on which each snake died, who lost and lives, its end and its last line (01, 'Replay'; 02, wish 3).
-- Assumes nothing.
use Rattle.std.specs.Prelude.{ℕ, ◌+◌, Bool, false, not, ◌&&◌, ◌||◌, List, ltb, leb, get_or, replicate, Option, Some, None}
use Rattle.lists.specs.Choice.{◌if◌else◌}
use Rattle.lists.specs.Below.{filled}
use Rattle.rules.specs.Events.{blank}
use Rattle.rules.specs.declared.Event.{Event}
use Rattle.rules.specs.declared.Setting.{Setting}
use Rattle.printing.specs.Text.{placings_text}
use Rattle.standing.specs.Placings.{placings_of}
use Rattle.standing.specs.declared.Match.{Match}

-- a match that has just begun
abbrev pub fresh : Setting → Match
fresh s = record { setting = s; moves = 0; deaths = replicate 8 0; behind = replicate 8 false; over = false; timeout = false }

-- what a table of eight holds; no accepted setting has more than eight snakes
abbrev pub few : ℕ → ℕ
few n = 8 if ltb 8 n else n

abbrev pub snakes_of : Match → ℕ
snakes_of m = few m.setting.num_snakes

-- one move more; 2^64 - 1 of them are never made
abbrev pub counted : ℕ → ℕ
counted k = k + 1 if ltb k 18446744073709551615 else k

-- 'moves at or above max_ticks'
abbrev pub reached : Option ℕ → ℕ → Bool
reached None k = false
reached (Some most) k = leb most k

-- 'After a move that is not terminal'
abbrev pub ends_by : Match → Bool → Bool
ends_by m over = not over && reached m.setting.max_ticks (counted m.moves)

-- the move on which a snake died: this one, k, for those that die on it
abbrev pub death_at : ℕ → List ℕ → List Event → ℕ → ℕ
death_at k deaths es i = k if (get_or es i blank).died else get_or deaths i 0

abbrev pub deaths_after : ℕ → List ℕ → List Event → List ℕ
deaths_after k deaths es = filled (death_at k deaths es) 8 8 0

-- 02: 'a living snake that lost', by its event. Only a terminal move by the lead makes one (theorems/proofs/Lead), and it is the last
abbrev pub lost_alive : Event → Bool
lost_alive e = e.lost && not e.died

abbrev pub behind_at : List Event → ℕ → Bool
behind_at es i = lost_alive (get_or es i blank)

abbrev pub behind_after : List Event → List Bool
behind_after es = filled (behind_at es) 8 8 false

-- the match after a move that was terminal or not, with these events
abbrev pub moved : Match → Bool → List Event → Match
moved m over es = record {
  setting = m.setting;
  moves = counted m.moves;
  deaths = deaths_after (counted m.moves) m.deaths es;
  behind = behind_after es;
  over = over || ends_by m over;
  timeout = ends_by m over;
}

-- 'each place'; what stands there before the end is no match's result
abbrev pub places_of : Match → List ℕ
places_of m = placings_of (snakes_of m) m.deaths m.behind

-- '`p` and each place'
unfoldable pub end_text : Match → List ℕ
end_text m = placings_text (places_of m) (snakes_of m)
