-- The match as a value, what each line does to it, and the whole replay (01, 'Replay'). Assumes nothing.
use Rattle.std.specs.Prelude.{ℕ, ◌≡◌, Bool, true, false, List, [], ◌∷◌, ◌++◌, length, get_or, take, Ok, Err, Option, Some, None}
use Rattle.lists.specs.Choice.{◌if◌else◌}
use Rattle.lists.specs.Below.{filled}
use Rattle.rules.specs.State.{State, count, snake_of}
use Rattle.rules.specs.Image.{image_of, snakes_in}
use Rattle.rules.specs.Step.{Transition}
use Rattle.rules.specs.Events.{blank, eight}
use Rattle.rules.specs.Turns.{truncated}
use Rattle.rules.specs.Says.{Says, seen, beside, lent}
use Rattle.rules.specs.Calls.{initial_says, step_says, Draw, draw_says}
use Rattle.rules.specs.declared.Setting.{Setting}
use Rattle.rules.specs.declared.Event.{Event}
use Rattle.parsing.specs.Lines.{read_first, read_later}
use Rattle.parsing.specs.Split.{lines_of}
use Rattle.standing.specs.Shown.{line_shown}
use Rattle.standing.specs.Standing.{fresh, snakes_of, ends_by, moved, end_text}
use Rattle.printing.specs.Text.{line_text, refusal_text, Wrote}
use Rattle.parsing.specs.declared.Line.{Line}
use Rattle.parsing.specs.declared.Line.TheVariants as Line
use Rattle.standing.specs.declared.Match.{Match}
use Rattle.referee.specs.declared.Desk.{Desk}
use Rattle.referee.specs.declared.Turned.{Turned}
use Rattle.rules.specs.declared.refusal.Refusal.TheVariants as Refusal
use Rattle.rules.specs.Refusals.{code_of}

-- what a line that is not refused does: the next state, the match, and the line that it prints
pub record Turn : Type 0 where
  pub next : State
  pub game : Match
  pub text : List ℕ

-- ---- the first line

abbrev pub opened : Setting → State → Turn
opened s t = record {
  next = t;
  game = fresh s;
  text = line_text 105 false t (eight []);
}

-- '32 before the call's own'; room is the length of the lent buffer
abbrev pub opened_by : Option Setting → ℕ → Says Turn
opened_by None room = Err Refusal.Line
opened_by (Some s) room = seen (opened s) (initial_says s room)

unfoldable pub begin_says : List ℕ → ℕ → Says Turn
begin_says line room = opened_by (read_first line) room

-- ---- a draw: it is no move, so that the match stands as before; its line begins with `d`, 100

abbrev pub drawn_turn : Match → Draw → Turn
drawn_turn m d = record { next = d.next; game = m; text = line_text 100 false d.next (eight []) }

-- ---- a move: its line begins with `m`, 109

-- 'marks the living y'
abbrev pub marked_at : State → List Event → ℕ → Event
marked_at t es i = truncated (get_or es i blank) (snake_of t i).alive

abbrev pub marked : State → List Event → List Event
marked t es = filled (marked_at t es) (count t) 8 blank

-- 'marks the living y and ends the match; its line still shows terminal 0'
unfoldable pub moved_turn : Match → Transition → Turn
moved_turn m o =
    let es = eight o.events in
    record {
      next = o.next;
      game = moved m o.terminal es;
      text = line_text 109 o.terminal o.next (marked o.next es if ends_by m o.terminal else es);
    }

-- ---- a line after the first: '33 comes before 32, 32 before the call's own'

abbrev pub asked : Match → List ℕ → ℕ → ℕ → Option Line → Says Turn
asked m w room cells None = Err Refusal.Line
asked m w room cells (Some (Line.Draw i)) = seen (drawn_turn m) (draw_says w i room cells)
asked m w room cells (Some (Line.Move acts)) = seen (moved_turn m) (step_says m.setting w (take (snakes_of m) acts) room)

-- w is the image; room and cells are the lengths of the lent buffers of the next image and of the cells drawn
unfoldable pub turn_says : Match → List ℕ → List ℕ → ℕ → ℕ → Says Turn
turn_says m w line room cells = Err Refusal.Over if m.over else asked m w room cells (read_later (snakes_of m) line)

-- what a line prints: a refusal its number
abbrev pub said : Says Turn → List ℕ
said (Err k) = refusal_text (code_of k)
said (Ok t) = t.text

-- the promise of a call that takes a line of match m: its answer, the next image in the lent words, the text in the lent bytes
pub record Plays (turn : Says Turn) (m : Match) (old new out exit : List ℕ) (r : Turned) : Type 0 where
  pub more : r.more ≡ beside (λ t. true) false turn
  pub game : r.game ≡ beside (λ t. t.game) m turn
  pub words : r.words ≡ beside (λ t. length (image_of t.next)) 0 turn
  pub image : new ≡ lent (λ t. image_of t.next) old turn
  pub long : length new ≡ length old
  pub text : Wrote out exit 0 r.text (said turn) 462

-- the two ways in which a call ends: a refusal printed, or the line of an image w
pub record Stops (m : Match) (k : ℕ) (out exit : List ℕ) (r : Turned) : Type 0 where
  pub more : r.more ≡ false
  pub game : r.game ≡ m
  pub words : r.words ≡ 0
  pub text : Wrote out exit 0 r.text (refusal_text k) 462

pub record Shows (m : Match) (letter : ℕ) (over : Bool) (w : List ℕ) (es : List Event) (out exit : List ℕ) (r : Turned) : Type 0 where
  pub more : r.more ≡ true
  pub game : r.game ≡ m
  pub words : r.words ≡ length w
  pub text : Wrote out exit 0 r.text (line_shown letter over w es (snakes_in w)) 462

-- ---- at a desk

-- what a line does at a desk, the first line or a later one; w is its image
unfoldable pub line_says : Desk → List ℕ → List ℕ → ℕ → ℕ → Says Turn
line_says d w line room cells = turn_says d.game w line room cells if d.begun else begin_says line room

-- 'At the end of input, `p` and each place'; 'Empty input is 32'
unfoldable pub close_text : Desk → List ℕ
close_text d = end_text d.game if d.begun else refusal_text 32

-- ---- the whole replay, with room for every image ('at most 9,253 words') and every list of cells

-- what a line prints, and what is printed after it: 'A refusal prints `r` and its number and stops'
abbrev pub onward : Says Turn → (Turn → List ℕ) → List ℕ
onward (Err k) after = refusal_text (code_of k)
onward (Ok t) after = t.text ++ after t

-- 'At the end of input, `p`'
unfoldable pub play_on : List (List ℕ) → Says Turn → List ℕ
play_on [] s = onward s (λ t. end_text t.game)
play_on (line ∷ lines) s = onward s (λ t. play_on lines (turn_says t.game (image_of t.next) line 9253 1024))

-- 'Empty input is 32'
abbrev pub played : List (List ℕ) → List ℕ
played [] = refusal_text 32
played (line ∷ lines) = play_on lines (begin_says line 9253)

unfoldable pub replay_of : List ℕ → List ℕ
replay_of input = played (lines_of input)
