-- A server that keeps a match as a value gets what the replay prints of the same lines: line by line, refusals and all, and so every turn that a replay
-- comes to. Assumes nothing.
use Rattle.std.specs.Prelude.{Ok, Err, Option, Some, None}
use Prim.Native.Nat.{ℕ, ◌≤◌}
use native.Mathlib.Omega.{arith}
use mathlib.Core.Path.{◌≡◌, refl, sym, ap, ◌∙◌}
use mathlib.Core.Bool.{Bool, true, false}
use mathlib.Core.List.{List}
use lib.ListN.{take}
use Rattle.lists.specs.Choice.{◌if◌else◌}
use Rattle.rules.specs.State.{State, count}
use Rattle.rules.specs.Image.{image_of}
use Rattle.rules.specs.Events.{eight}
use Rattle.rules.specs.Step.{Transition}
use Rattle.rules.specs.Says.{Says, seen}
use Rattle.rules.specs.Calls.{initial_says, step_says}
use Rattle.rules.specs.declared.Event.{Event}
use Rattle.parsing.specs.Lines.{read_first, read_later}
use Rattle.parsing.specs.declared.Line.{Line}
use Rattle.parsing.specs.declared.Line.TheVariants as Line
use Rattle.printing.specs.Text.{line_text}
use Rattle.standing.specs.Calls.{Move, move_says, Takes}
use Rattle.standing.specs.Shown.{events_shown}
use Rattle.standing.specs.Standing.{snakes_of, moved, end_text}
use Rattle.standing.specs.declared.Match.{Match}
use Rattle.standing.specs.declared.Taken.{Taken}
use Rattle.referee.specs.Match.{Turn, opened, opened_by, begin_says, moved_turn, asked, turn_says}
use Rattle.referee.proofs.Playing.{events_shown_lem}
use Rattle.referee.proofs.Saying.{step_fits}
use Rattle.theorems.specs.Lead.{Reached, begun, taken}
use Rattle.theorems.specs.Server.{moved_on, move_served, served_by, places_shown, Served, starts, draws, moves}
use Rattle.rules.specs.declared.refusal.Refusal.TheVariants as Refusal
use Rattle.rules.specs.declared.Setting.{Setting}

-- ---- a move

module _ (m : Match) (on : m.over ≡ false) where
  -- the match takes it as the replay does
  move_on : (o : Transition) → count o.next ≤ 8 → moved_on m o ≡ Ok (moved_turn m o)
  unfolding moved_turn
  move_on o h =
      let t : Bool = o.terminal in
      let es : List Event = eight o.events in
      ap (λ (b : Bool). seen (λ (t : Move). record { next = o.next; game = t.game; text = line_text 109 o.terminal o.next t.events })
      (Err Refusal.Over if b else Ok (record { game = moved m t es; events = events_shown m t (image_of o.next) es }))) on
      ∙ ap (λ (l : List Event). Ok (record { next = o.next; game = moved m t es; text = line_text 109 t o.next l })) (events_shown_lem m t o.next es h)

  step_on : (x : Says Transition) → ((o : Transition) → x ≡ Ok o → count o.next ≤ 8) → move_served m x ≡ seen (moved_turn m) x
  step_on (Err k) f = refl
  step_on (Ok o) f = move_on o (f o refl)

  -- `step` and `take_move` give what a move's line does
  pub move_served_lem : (w acts : List ℕ) (room : ℕ) → move_served m (step_says m.setting w acts room) ≡ seen (moved_turn m) (step_says m.setting w acts room)
  move_served_lem w acts room = step_on (step_says m.setting w acts room) (λ o e. (step_fits m.setting w acts room o e).few)

-- after the end the match refuses the move by 33, as the replay every line
pub over_served : (m : Match) → m.over ≡ true → (over : Bool) (w : List ℕ) (es : List Event) → move_says m over w es ≡ Err Refusal.Over
over_served m h over w es = ap (λ (b : Bool). Err Refusal.Over if b else Ok (record { game = moved m over es; events = events_shown m over w es })) h

-- two answers that meet the promise are equal
pub one_taken : (x : Says Move) (r r' : Says Taken) → Takes x r → Takes x r' → r ≡ r'
one_taken x r r' p p' = p.answer ∙ sym p'.answer

-- ---- a line

asked_served : (m : Match) → m.over ≡ false → (w : List ℕ) (room cells : ℕ) (x : Option Line) → asked m w room cells x ≡ served_by m w room cells x
asked_served m on w room cells None = refl
asked_served m on w room cells (Some (Line.Draw i)) = refl
asked_served m on w room cells (Some (Line.Move acts)) = sym (move_served_lem m on w (take (snakes_of m) acts) room)

-- a line after the first: what the replay makes of it is what the server's calls make of it
pub line_served : (m : Match) (w line : List ℕ) (room cells : ℕ)
    → turn_says m w line room cells ≡ (Err Refusal.Over if m.over else served_by m w room cells (read_later (snakes_of m) line))
unfolding turn_says
line_served m w line room cells = go m.over refl
  where
    go : (b : Bool) → m.over ≡ b
        → let x = read_later (snakes_of m) line in (Err Refusal.Over if b else asked m w room cells x) ≡ (Err Refusal.Over if b else served_by m w room cells x)
    go true h = refl
    go false h = asked_served m h w room cells (read_later (snakes_of m) line)

-- the last line shows `places`
pub places_served : (m : Match) → end_text m ≡ places_shown m
unfolding end_text
places_served m = refl

-- ---- every turn that a replay comes to

no_turn : (b : Bool) (x : Says Turn) (u : Turn) → (Err Refusal.Over if b else x) ≡ Ok u → (b ≡ false) × (x ≡ Ok u)
no_turn true x u e = let z : ◌≡◌ {A = ℕ} 0 1 = cc in absurd (omega arith)
no_turn false x u e = (refl, e)

begins : (x : Option Setting) (room : ℕ) (t : Turn) → opened_by x room ≡ Ok t → Served t
begins None room t e = let z : ◌≡◌ {A = ℕ} 0 1 = cc in absurd (omega arith)
begins (Some s) room t e = go (initial_says s room) refl e
  where
    go : (y : Says State) → initial_says s room ≡ y → seen (opened s) y ≡ Ok t → Served t
    go (Err k) p q = let z : ◌≡◌ {A = ℕ} 0 1 = cc in absurd (omega arith)
    go (Ok a) p q = let r : opened s a ≡ t = cc in rw (← r) (starts s room p)

goes : (t : Turn) (room cells : ℕ) (x : Option Line) (u : Turn) → Served t → t.game.over ≡ false → asked t.game (image_of t.next) room cells x ≡ Ok u → Served u
goes t room cells None u s on e = let z : ◌≡◌ {A = ℕ} 0 1 = cc in absurd (omega arith)
goes t room cells (Some (Line.Draw i)) u s on e = draws t i room cells s on e
goes t room cells (Some (Line.Move acts)) u s on e = let l = take (snakes_of t.game) acts in moves t l room s (move_served_lem t.game on (image_of t.next) l room ∙ e)

-- the match, the image and the line of every turn are a server's, by its calls
pub replay_served : (t : Turn) → Reached t → Served t
unfolding begin_says turn_says
replay_served t (begun line room e) = begins (read_first line) room t e
replay_served t (taken v line room cells r e) =
    let x = read_later (snakes_of v.game) line in
    let p = no_turn v.game.over (asked v.game (image_of v.next) room cells x) t e in
    goes v room cells x t (replay_served v r) p.0 p.1
