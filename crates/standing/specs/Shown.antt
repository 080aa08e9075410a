-- The output's line as the words of an image show it. Assumes nothing.
use Rattle.std.specs.Prelude.{ℕ, Bool, List, [], ◌∷◌, ◌++◌, eqb, get_or}
use Rattle.lists.specs.Choice.{◌if◌else◌}
use Rattle.lists.specs.Below.{concat_below, filled}
use Rattle.rules.specs.Events.{blank}
use Rattle.rules.specs.Turns.{truncated}
use Rattle.rules.specs.Image.{word, snakes_in, due_in, food_count_in, start_at, length_at, alive_at}
use Rattle.rules.specs.declared.Event.{Event}
use Rattle.printing.specs.Text.{body_text, events_text, head_text}
use Rattle.standing.specs.Standing.{few, ends_by}
use Rattle.standing.specs.declared.Match.{Match}

unfoldable pub snake_shown : List ℕ → ℕ → Event → List ℕ
snake_shown w i e = body_text (eqb (alive_at w i) 1) (length_at w i) (word w (start_at w i)) ++ (58 ∷ []) ++ events_text e

abbrev pub snake_shown_by : List ℕ → List Event → ℕ → List ℕ
snake_shown_by w es i = snake_shown w i (get_or es i blank)

unfoldable pub line_shown : ℕ → Bool → List ℕ → List Event → ℕ → List ℕ
line_shown letter over w es n = head_text letter over (due_in w) (food_count_in w) ++ concat_below n (snake_shown_by w es) ++ (10 ∷ [])

-- the events marked, by the words
abbrev pub mark_shown : List ℕ → List Event → ℕ → Event
mark_shown w es i = truncated (get_or es i blank) (eqb (alive_at w i) 1)

-- 'After a move that is not terminal, moves at or above max_ticks marks the living y', by the words
abbrev pub events_shown : Match → Bool → List ℕ → List Event → List Event
events_shown m over w es = filled (mark_shown w es) (few (snakes_in w)) 8 blank if ends_by m over else es
