-- What a server gets that keeps a match as a value beside the image: what the theorems on its calls speak of. Assumes nothing.
use Rattle.std.specs.Prelude.{ℕ, ◌≡◌, false, List, [], take, Option, Some, None, Ok, Err}
use Rattle.rules.specs.State.{State}
use Rattle.rules.specs.Image.{image_of}
use Rattle.rules.specs.Step.{Transition}
use Rattle.rules.specs.Events.{eight}
use Rattle.rules.specs.Says.{Says, seen}
use Rattle.rules.specs.Calls.{initial_says, step_says, draw_says}
use Rattle.rules.specs.declared.Setting.{Setting}
use Rattle.parsing.specs.declared.Line.{Line}
use Rattle.parsing.specs.declared.Line.TheVariants as Line
use Rattle.printing.specs.Text.{line_text, placings_text}
use Rattle.standing.specs.Calls.{Move, move_says}
use Rattle.standing.specs.Standing.{fresh, snakes_of, places_of}
use Rattle.standing.specs.declared.Match.{Match}
use Rattle.referee.specs.Match.{Turn, drawn_turn}
use Rattle.rules.specs.declared.refusal.Refusal.TheVariants as Refusal

-- A turn is what a server keeps between two calls, the image's state and the match, whose setting it hands to a step; and what it shows of its last call

-- `step`, and then `take_move` with the step's end, image and events. The line shows the step's end and the events that `take_move` gave
abbrev pub moved_on : Match → Transition → Says Turn
moved_on m o =
    seen (λ (t : Move). record { next = o.next; game = t.game; text = line_text 109 o.terminal o.next t.events }) (move_says m o.terminal (image_of o.next) (eight o.events))

abbrev pub move_served : Match → Says Transition → Says Turn
move_served m (Err k) = Err k
move_served m (Ok o) = moved_on m o

-- one line's calls, after a look at `over`
abbrev pub served_by : Match → List ℕ → ℕ → ℕ → Option Line → Says Turn
served_by m w room cells None = Err Refusal.Line
served_by m w room cells (Some (Line.Draw i)) = seen (drawn_turn m) (draw_says w i room cells)
served_by m w room cells (Some (Line.Move acts)) = move_served m (step_says m.setting w (take (snakes_of m) acts) room)

-- the last line, of `places`
abbrev pub places_shown : Match → List ℕ
places_shown m = placings_text (places_of m) (snakes_of m)

-- what a server comes to: the initial state and a new match, then draws and moves, each with room for its answer
pub data Served : Turn → Type 0 where
  starts : {t : State} (s : Setting) (room : ℕ) → initial_says s room ≡ Ok t → Served (record { next = t; game = fresh s; text = line_text 105 false t (eight []) })
  draws : {u : Turn} (t : Turn) (i room cells : ℕ) → Served t → t.game.over ≡ false → seen (drawn_turn t.game) (draw_says (image_of t.next) i room cells) ≡ Ok u → Served u
  moves : {u : Turn} (t : Turn) (acts : List ℕ) (room : ℕ) → Served t → move_served t.game (step_says t.game.setting (image_of t.next) acts room) ≡ Ok u → Served u
