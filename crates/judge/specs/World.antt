-- The code's records of the moved snakes, as the definition's world: the rest of a body is the front of its part of the image. Assumes nothing.
use Rattle.std.specs.Prelude.{ℕ, ◌+◌, ◌<◌, ◌≤◌, ◌≡◌, false, List, pos, length, get_or, take, drop, Option, None}
use Rattle.lists.specs.Below.{each_below, filled}
use Rattle.rules.specs.declared.Cause.{Cause}
use Rattle.rules.specs.declared.Heading.TheVariants.{Up}
use Rattle.rules.specs.Grid.{cell_of}
use Rattle.rules.specs.State.{nobody}
use Rattle.rules.specs.Image.{snakes_in, side_in, start_at, state_of}
use Rattle.rules.specs.Step.{Moved, stays, moved_of, cause_of}
use Rattle.judge.specs.declared.Move.{Move}
use Rattle.judge.specs.declared.Judged.{Judged}
use Rattle.judge.specs.Moving.{move_at}

-- a place of the array that no snake has
abbrev pub still : Move
still = record { moves = false; heading = Up; eats = false; inside = false; head = record { row = pos 0; col = pos 0 }; cell = 0; keep = 0 }

-- snake i's move
abbrev pub shown : List ℕ → ℕ → Move → Moved
shown w i m = record { moves = m.moves; heading = m.heading; head = m.head; rest = take m.keep (drop (start_at w i) w); eats = m.eats }

abbrev pub world : List ℕ → List Move → ℕ → Moved
world w all i = shown w i (get_or all i still)

abbrev pub moves_of : Judged → ℕ → Move
moves_of js i = get_or js.moves i still

abbrev pub causes_of : Judged → ℕ → Option Cause
causes_of js i = get_or js.causes i None

-- the world that the judged moves make
abbrev pub judged_world : List ℕ → Judged → ℕ → Moved
judged_world w js = world w js.moves

-- the world of the definition: each snake moved, and nobody after them
abbrev pub moved_world : List ℕ → List ℕ → ℕ → Moved
moved_world w acts i = get_or (each_below (snakes_in w) (moved_of (state_of w) acts)) i (stays nobody)

-- all moves of the image w by these actions, with the cells of their heads, and for each snake the cause judged on that one world; nothing after the last snake
pub record Judges (w acts : List ℕ) (js : Judged) : Type 0 where
  pub moves : js.moves ≡ filled (move_at w acts) (snakes_in w) 8 still
  pub moved : judged_world w js ≡ moved_world w acts
  pub causes : causes_of js ≡ (λ (i : ℕ). get_or (each_below (snakes_in w) (cause_of (side_in w) (snakes_in w) (judged_world w js))) i None)
  pub cells : (i : ℕ) → (moves_of js i).cell ≡ cell_of (side_in w) (moves_of js i).head
  pub parts : (i : ℕ) → i < snakes_in w → start_at w i + (moves_of js i).keep ≤ length w
  pub short : (i : ℕ) → (moves_of js i).keep ≤ 1024
