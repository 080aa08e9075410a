-- What a match says to a move that a step made, and the promise of the call. Assumes nothing.
use Rattle.std.specs.Prelude.{◌≡◌, Bool, List, ℕ, Ok, Err}
use Rattle.lists.specs.Choice.{◌if◌else◌}
use Rattle.rules.specs.Says.{Says, seen}
use Rattle.rules.specs.declared.Event.{Event}
use Rattle.standing.specs.Shown.{events_shown}
use Rattle.standing.specs.Standing.{moved}
use Rattle.standing.specs.declared.Match.{Match}
use Rattle.standing.specs.declared.Taken.{Taken}
use Rattle.rules.specs.declared.refusal.Refusal.TheVariants as Refusal

-- the match after a move, and the move's events as its line shows them
pub record Move : Type 0 where
  pub game : Match
  pub events : List Event

-- over and es are the step's answer, w is the image that it wrote; 33 'match over'
abbrev pub move_says : Match → Bool → List ℕ → List Event → Says Move
move_says m over w es = Err Refusal.Over if m.over else Ok (record { game = moved m over es; events = events_shown m over w es })

abbrev pub taken_of : Move → Taken
taken_of t = record { game = t.game; events = t.events }

pub record Takes (x : Says Move) (r : Says Taken) : Type 0 where
  pub answer : r ≡ seen taken_of x
