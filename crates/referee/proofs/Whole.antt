-- What a program prints that takes its lines by `take_line` and ends by `close` is the replay of its input. Assumes nothing.
use Rattle.std.specs.Prelude.{Ok, Err}
use Prim.Native.Nat.{ℕ}
use native.Mathlib.Nat.{zero-add}
use mathlib.Core.Path.{◌≡◌, refl, sym, ap, ◌∙◌}
use mathlib.Core.Bool.{true, false, true≢false, false≢true}
use mathlib.Core.List.{List, [], ◌∷◌, ◌++◌, append_assoc, append-nil}
use lib.Dec.{eqb}
use lib.ListN.{length, take}
use Rattle.lists.proofs.Insert.{over_take}
use Rattle.lists.proofs.Writes.{write_front}
use Rattle.rules.specs.Image.{image_of}
use Rattle.rules.specs.Says.{Says}
use Rattle.parsing.specs.Fields.{up_to}
use Rattle.parsing.specs.Lines.{read_first, read_later}
use Rattle.parsing.specs.Split.{lines_of}
use Rattle.printing.specs.Text.{Wrote}
use Rattle.referee.specs.Match.{Turn, opened_by, begin_says, turn_says, said, line_says, close_text, Plays, onward, play_on, played, replay_of}
use Rattle.standing.specs.Standing.{snakes_of}
use Rattle.referee.specs.Run.{Took, Closed, desk_after, Run, holds, goes, stops, ends, goes_last, stops_last}
use Rattle.referee.specs.declared.Desk.{Desk}
use Rattle.referee.specs.declared.Turned.{Turned}
use Rattle.parsing.proofs.Feeding.{held_first, held_later, ends_by_lem, line_first, line_last, line_none}
use Rattle.referee.proofs.Playing.{close_begun, close_new, line_begun, line_new}

-- ---- the replay from a desk on, line by line

abbrev desk_on : Turn → Desk
desk_on t = record { begun = true; game = t.game; words = length (image_of t.next) }

unfoldable from : Desk → List ℕ → List (List ℕ) → List ℕ
from d w [] = close_text d
from d w (line ∷ lines) = onward (line_says d w line 9253 1024) (λ t. from (desk_on t) (image_of t.next) lines)

-- at a desk that has begun, it is what the definitions print
from_begun : (lines : List (List ℕ)) (s : Says Turn) → onward s (λ t. from (desk_on t) (image_of t.next) lines) ≡ play_on lines s
unfolding from play_on
from_begun [] (Err k) = refl
from_begun [] (Ok t) = ap (λ (l : List ℕ). t.text ++ l) (close_begun (desk_on t) refl)
from_begun (line ∷ lines) (Err k) = refl
from_begun (line ∷ lines) (Ok t) =
    let w = image_of t.next in
    let e = line_begun (desk_on t) w line 9253 1024 refl in
    ap (λ (l : List ℕ). t.text ++ l)
    (ap (λ (s : Says Turn). onward s (λ u. from (desk_on u) (image_of u.next) lines)) e ∙ from_begun lines (turn_says t.game w line 9253 1024))

from_new : (d : Desk) (w : List ℕ) (lines : List (List ℕ)) → d.begun ≡ false → from d w lines ≡ played lines
unfolding from
from_new d w [] e = close_new d e
from_new d w (line ∷ lines) e =
    ap (λ (s : Says Turn). onward s (λ t. from (desk_on t) (image_of t.next) lines)) (line_new d w line 9253 1024 e) ∙ from_begun lines (begin_says line 9253)

-- ---- one line

-- what was written is what is printed
wrote_front : (out exit s : List ℕ) (r most : ℕ) → Wrote out exit 0 r s most → take r exit ≡ s
wrote_front out exit s r most p = rw (p.next, zero-add (length s), p.words, write_front out s) (over_take s out)

-- the line that is held is read as the line that came
same_begin : (a b : List ℕ) (room : ℕ) → read_first a ≡ read_first b → begin_says a room ≡ begin_says b room
unfolding begin_says
same_begin a b room e = ap (λ f. opened_by f room) e

same_line : (d : Desk) (w a b : List ℕ) (room cells : ℕ) → read_first a ≡ read_first b → ((n : ℕ) → read_later n a ≡ read_later n b) → line_says d w a room cells ≡ line_says d w b room cells
unfolding line_says turn_says
same_line d w a b room cells e f = rw (same_begin a b room e, f (snakes_of d.game))

module _ (d : Desk) (image s new told : List ℕ) (r : Turned) (k : Took d image s new told r) where
  abbrev w : List ℕ
  w = take d.words image

  line_is : line_says d w (take k.fill k.buffer) 9253 1024 ≡ line_says d w s 9253 1024
  line_is = same_line d w (take k.fill k.buffer) s 9253 1024 (held_first k.buffer s k.fill k.long k.held) (held_later k.buffer s k.fill k.long k.held)

  plays_line : Plays (line_says d w s 9253 1024) d.game image new k.out k.exit r
  plays_line = rw (sym line_is) k.plays

  told_is : (x : Says Turn) → Plays x d.game image new k.out k.exit r → told ≡ said x
  told_is x p = k.prints ∙ wrote_front k.out k.exit (said x) r.text 462 p.text

  -- it stops
  line_stops : (x : Says Turn) (after : Turn → List ℕ) → Plays x d.game image new k.out k.exit r → r.more ≡ false → told ≡ onward x after
  line_stops (Err n) after p e = told_is (Err n) p
  line_stops (Ok t) after p e = absurd (true≢false (sym p.more ∙ e))

  -- it goes on, at the next desk with the next image
  line_goes : (x : Says Turn) (lines : List (List ℕ)) → Plays x d.game image new k.out k.exit r → r.more ≡ true
      → told ++ from (desk_after r) (take r.words new) lines ≡ onward x (λ t. from (desk_on t) (image_of t.next) lines)
  line_goes (Err n) lines p e = absurd (false≢true (sym p.more ∙ e))
  line_goes (Ok t) lines p e =
      let f : take r.words new ≡ image_of t.next = rw (p.words, p.image) (over_take (image_of t.next) image) in
      let g : desk_after r ≡ desk_on t = rw (p.words, p.game) in
      rw (told_is (Ok t) p, f, g)

-- ---- the whole input

closed_is : (d : Desk) (told : List ℕ) → Closed d told → told ≡ close_text d
closed_is d told c = c.prints ∙ wrote_front c.out c.exit (close_text d) c.count 170 c.wrote

-- bytes without a newline, side by side
no_newline : (s t : List ℕ) → up_to 10 s ≡ s → up_to 10 t ≡ t → up_to 10 (s ++ t) ≡ s ++ t
unfolding up_to
no_newline [] t e f = f
no_newline (x ∷ s) t e f =
    let q = ends_by_lem (eqb x 10) x s e in
    rw (q.0, no_newline s t q.1 f)

no_bytes : up_to 10 [] ≡ []
unfolding up_to
no_bytes = refl

last_line : (d : Desk) (image : List ℕ) (b : ℕ) (s : List ℕ) → up_to 10 (b ∷ s) ≡ b ∷ s
    → from d (take d.words image) (lines_of ((b ∷ s) ++ [])) ≡ from d (take d.words image) ((b ∷ s) ∷ [])
last_line d image b s n = ap (λ (l : List ℕ). from d (take d.words image) (lines_of l)) (append-nil (b ∷ s)) ∙ ap (from d (take d.words image)) (line_last b s n)

run_is : {d : Desk} {image s input printed : List ℕ} → up_to 10 s ≡ s → Run d image s input printed → printed ≡ from d (take d.words image) (lines_of (s ++ input))
unfolding from
run_is {d = d} {image = image} {s = s} n (holds {input = input} part e run) = run_is (no_newline s part n e) run ∙ ap (λ (l : List ℕ). from d (take d.words image) (lines_of l)) (append_assoc s part input)
run_is n (goes {d = d} {image = image} {s = s} {input = input} new told r k m run) =
    let x = line_says d (take d.words image) s 9253 1024 in
    ap (λ (l : List ℕ). told ++ l) (run_is no_bytes run)
    ∙ line_goes d image s new told r k x (lines_of input) (plays_line d image s new told r k) m
    ∙ sym (ap (from d (take d.words image)) (line_first s input n))
run_is n (stops {d = d} {image = image} {s = s} {input = input} {said = told} new r k m) =
    let x = line_says d (take d.words image) s 9253 1024 in
    line_stops d image s new told r k x (λ t. from (desk_on t) (image_of t.next) (lines_of input)) (plays_line d image s new told r k) m
    ∙ sym (ap (from d (take d.words image)) (line_first s input n))
run_is n (ends {d = d} {image = image} {said = told} c) = closed_is d told c ∙ sym (ap (from d (take d.words image)) line_none)
run_is n (goes_last {d = d} {image = image} {s = s} {x = b} new told end r k m c) =
    let x = line_says d (take d.words image) (b ∷ s) 9253 1024 in
    ap (λ (l : List ℕ). told ++ l) (closed_is (desk_after r) end c)
    ∙ line_goes d image (b ∷ s) new told r k x [] (plays_line d image (b ∷ s) new told r k) m
    ∙ sym (last_line d image b s n)
run_is n (stops_last {d = d} {image = image} {s = s} {said = told} {x = b} new r k m) =
    let x = line_says d (take d.words image) (b ∷ s) 9253 1024 in
    line_stops d image (b ∷ s) new told r k x (λ t. from (desk_on t) (image_of t.next) []) (plays_line d image (b ∷ s) new told r k) m
    ∙ sym (last_line d image b s n)

-- what is printed from a desk at which no line was taken
pub run_prints : (d : Desk) (image input printed : List ℕ) → d.begun ≡ false → Run d image [] input printed → printed ≡ replay_of input
unfolding replay_of
run_prints d image input printed e run = run_is no_bytes run ∙ from_new d (take d.words image) (lines_of input) e
