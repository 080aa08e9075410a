-- From a line as it is read to what it plays: the first line and the others, an image that takes the place of the one before it,
-- the end of the input. Assumes nothing.
use Rattle.std.specs.Prelude.{Option, Some, None}
use Prim.Native.Nat.{ℕ, ◌+◌, ◌≤◌}
use native.Mathlib.Omega.{arith}
use mathlib.Core.Path.{◌≡◌, refl, sym, ◌∙◌}
use mathlib.Core.Bool.{Bool, true, false, not}
use mathlib.Core.List.{List}
use lib.ListN.{length, take, get_or}
use lib.Seq.{length-take-le}
use borrow.Author.Tests.{not-true, not-false}
use Rattle.lists.specs.Lists.{write_at}
use Rattle.rules.specs.Says.{seen}
use Rattle.rules.specs.Calls.{initial_says, step_says, draw_says}
use Rattle.rules.specs.declared.Event.{Event}
use Rattle.rules.specs.declared.Setting.{Setting}
use Rattle.parsing.specs.Lines.{read_first, read_later}
use Rattle.parsing.specs.declared.Line.{Line}
use Rattle.printing.specs.Text.{Wrote, refusal_text}
use Rattle.printing.proofs.Writing.{wider}
use Rattle.standing.specs.Shown.{line_shown, events_shown}
use Rattle.standing.specs.Standing.{snakes_of, moved, end_text}
use Rattle.standing.specs.declared.Match.{Match}
use Rattle.referee.specs.Match.{opened, drawn_turn, moved_turn, asked, begin_says, turn_says, line_says, close_text, Plays, Stops, Shows}
use Rattle.referee.specs.declared.Desk.{Desk}
use Rattle.referee.specs.declared.Turned.{Turned}
use Rattle.referee.proofs.Playing.{refused_line, turn_over, turn_on, stays, moves_on, words_fit, close_begun, close_new, line_begun, line_new}
use Rattle.rules.specs.declared.refusal.Refusal.TheVariants as Refusal

module _ (m : Match) (old out exit : List ℕ) (r : Turned) where
  -- ---- the first line

  pub begin_stops : (line : List ℕ) (room : ℕ) (f : Option Setting) → f ≡ read_first line → f ≡ None → Stops m 32 out exit r → Plays (begin_says line room) m old old out exit r
  unfolding begin_says
  begin_stops line room f p q s = rw (sym p ∙ q) (refused_line m Refusal.Line old out exit r s)

  pub begin_opens : (new line : List ℕ) (f : Option Setting) (s : Setting) → f ≡ read_first line → f ≡ Some s
      → Plays (seen (opened s) (initial_says s (length old))) m old new out exit r → Plays (begin_says line (length old)) m old new out exit r
  unfolding begin_says
  begin_opens new line f s p q plays = rw (sym p ∙ q) plays

  -- ---- a line after the first

  module _ (w : List ℕ) (room cells : ℕ) where
    pub turn_stops : (line : List ℕ) → m.over ≡ true → Stops m 33 out exit r → Plays (turn_says m w line room cells) m old old out exit r
    turn_stops line o s = rw (turn_over m w line room cells o) (refused_line m Refusal.Over old out exit r s)

    pub turn_plays : (new line : List ℕ) → m.over ≡ false → (n : ℕ) → n ≡ snakes_of m → (e : Option Line) → e ≡ read_later n line
        → Plays (asked m w room cells e) m old new out exit r → Plays (turn_says m w line room cells) m old new out exit r
    turn_plays new line o n pn e pe plays = rw (turn_on m w line room cells o, ← pn, ← pe) plays

-- ---- at a desk

module _ (d : Desk) (w line : List ℕ) (room cells : ℕ) (old new out exit : List ℕ) (r : Turned) where
  pub ask_turns : d.begun ≡ true → Plays (turn_says d.game w line room cells) d.game old new out exit r → Plays (line_says d w line room cells) d.game old new out exit r
  ask_turns b plays = rw (line_begun d w line room cells b) plays

  pub ask_begins : d.begun ≡ false → Plays (begin_says line room) d.game old new out exit r → Plays (line_says d w line room cells) d.game old new out exit r
  ask_begins b plays = rw (line_new d w line room cells b) plays

-- the line was asked on the front of the desk's image
module _ (d : Desk) (image line : List ℕ) (room cells : ℕ) (old new out exit : List ℕ) (r : Turned)
    (plays : Plays (line_says d (take d.words image) line room cells) d.game old new out exit r) where
  pub desk_stays : not r.more ≡ true → Plays (line_says d (take d.words image) line room cells) d.game image image out exit r
  desk_stays h = stays (line_says d (take d.words image) line room cells) d.game image old new out exit r plays (not-true r.more h)

  pub desk_words : r.words ≤ length new
  desk_words = words_fit (line_says d (take d.words image) line room cells) d.game old new out exit r plays

  module _ (fits : length old ≤ length image) where
    pub desk_room : 0 + length (take r.words new) ≤ length image
    desk_room = omega (arith, length-take-le r.words new (omega (arith, desk_words)), desk_words, plays.long)

    pub desk_moves : not r.more ≡ false → (image' : List ℕ) → image' ≡ write_at image 0 (take r.words new)
        → Plays (line_says d (take d.words image) line room cells) d.game image image' out exit r
    desk_moves h image' e = rw e (moves_on (line_says d (take d.words image) line room cells) d.game image old new out exit r plays (not-false r.more h) fits)

-- ---- the end of the input

module _ (d : Desk) (out exit : List ℕ) (k : ℕ) where
  pub close_ends : d.begun ≡ true → Wrote out exit 0 k (end_text d.game) 170 → Wrote out exit 0 k (close_text d) 170
  close_ends b p = rw (close_begun d b) p

  pub close_refuses : d.begun ≡ false → (why : ℕ) → why ≡ 32 → Wrote out exit 0 k (refusal_text why) 23 → Wrote out exit 0 k (close_text d) 170
  close_refuses b why e p = rw (close_new d b, ← e) (wider 170 p (omega arith))

-- ---- the line of an image

module _ (m : Match) (over : Bool) (w : List ℕ) (es : List Event) (out exit : List ℕ) where
  pub line_shows : (letter n k : ℕ) → n ≡ get_or w 0 0 → Wrote out exit 0 k (line_shown letter over w es n) 462
      → Shows m letter over w es out exit (record { more = true; game = m; words = length w; text = k })
  line_shows letter n k pn x = record { more = refl; game = refl; words = refl; text = rw (← pn) x }

  pub move_shown : (shown : List Event) → shown ≡ events_shown m over w es → (game : Match) → game ≡ moved m over es → (r : Turned)
      → Shows game 109 over w shown out exit r → Shows (moved m over es) 109 over w (events_shown m over w es) out exit r
  move_shown shown p game q r s = rw (← p, ← q) s
