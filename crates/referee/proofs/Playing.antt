-- From what a call of the arena promises to what a line of the match does. Assumes nothing.
use Rattle.std.specs.Prelude.{Ok, Err}
use Prim.Native.Nat.{ℕ, ◌≤◌}
use native.Mathlib.Omega.{arith}
use mathlib.Core.Path.{◌≡◌, refl, sym, ap, ◌∙◌}
use mathlib.Core.Bool.{Bool, true, false, true≢false, false≢true}
use mathlib.Core.List.{List}
use lib.ListN.{length, take, drop, length-append, length-drop}
use borrow.Author.Tests.{le-ltb}
use Rattle.lists.specs.Choice.{◌if◌else◌}
use Rattle.lists.specs.Below.{filled}
use Rattle.lists.specs.Lists.{over_front, write_at}
use Rattle.lists.proofs.Insert.{over_take}
use Rattle.lists.proofs.Writes.{write_front}
use Rattle.rules.specs.State.{State, count}
use Rattle.rules.specs.Image.{image_of, snakes_in}
use Rattle.rules.specs.Says.{Says, seen, lent}
use Rattle.rules.specs.Step.{Transition}
use Rattle.rules.specs.Events.{blank, eight}
use Rattle.rules.specs.declared.Event.{Event}
use Rattle.rules.specs.declared.refusal.Refusal.{Refusal}
use Rattle.rules.proofs.Image.{snakes_is}
use Rattle.parsing.specs.Lines.{read_later}
use Rattle.printing.specs.Text.{line_text, refusal_text}
use Rattle.standing.specs.Shown.{line_shown, mark_shown, events_shown}
use Rattle.referee.specs.Match.{Turn, marked, moved_turn, asked, begin_says, turn_says, line_says, close_text, Stops, Shows, Plays}
use Rattle.standing.specs.Standing.{few, snakes_of, ends_by, moved, end_text}
use Rattle.standing.specs.declared.Match.{Match}
use Rattle.referee.specs.declared.Desk.{Desk}
use Rattle.referee.specs.declared.Turned.{Turned}
use Rattle.referee.proofs.Showing.{line_shown_lem, marks_shown}
use Rattle.rules.specs.declared.refusal.Refusal.TheVariants as Refusal
use Rattle.rules.specs.Refusals.{code_of}

over_long : (s d : List ℕ) → length s ≤ length (over_front s d)
unfolding over_front
over_long s d = omega (arith, length-append s (drop (length s) d))

over_same : (s d : List ℕ) → length s ≤ length d → length (over_front s d) ≡ length d
unfolding over_front
over_same s d h = omega (arith, length-append s (drop (length s) d), length-drop (length s) d)

-- a call that answered b, with n words: what it gave, and where that stands
module _ {A B : Type 0} (g : A → State) (h : A → B) (old new : List ℕ) (b : B) where
  pub data Done (n : ℕ) (x : Says A) : Type 0 where
    done : (a : A) → x ≡ Ok a → b ≡ h a → n ≡ length (image_of (g a)) → new ≡ over_front (image_of (g a)) old → take n new ≡ image_of (g a) → n ≤ length new → Done n x

  pub done_by : (words : B → ℕ) → ((a : A) → words (h a) ≡ length (image_of (g a))) → (x : Says A) → Ok b ≡ seen h x → new ≡ lent (λ a. image_of (g a)) old x → Done (words b) x
  done_by words counts (Err k) e w = let z : ◌≡◌ {A = ℕ} 0 1 = cc in absurd (omega arith)
  done_by words counts (Ok a) e w =
      let v : b ≡ h a = cc in
      let p : words b ≡ length (image_of (g a)) = ap words v ∙ counts a in
      let f : take (words b) new ≡ image_of (g a) = rw (p, w) (over_take (image_of (g a)) old) in
      let l : words b ≤ length new = rw (p, w) (over_long (image_of (g a)) old) in
      done a refl v p w f l

-- a refusal of the call is a refusal of the line
pub stopped : {A : Type 0} (f : A → Turn) (x : Says A) (m : Match) (old new out exit : List ℕ) (r : Turned) (k : Refusal)
    → x ≡ Err k → new ≡ lent (λ a. image_of (f a).next) old x → Stops m (code_of k) out exit r → Plays (seen f x) m old new out exit r
stopped f (Err j) m old new out exit r k e w s =
    let p : j ≡ k = cc in
    record { more = s.more; game = s.game; words = s.words; image = w; long = ap length w; text = rw p s.text }
stopped f (Ok a) m old new out exit r k e w s = let z : ◌≡◌ {A = ℕ} 0 1 = cc in absurd (omega arith)

-- the line of the next image is the line of the turn
pub shown : (t : Turn) (m : Match) (old new out exit : List ℕ) (r : Turned) (letter : ℕ) (over : Bool) (w : List ℕ) (es : List Event)
    → w ≡ image_of t.next → line_text letter over t.next es ≡ t.text → new ≡ over_front (image_of t.next) old → length (image_of t.next) ≤ length old
    → Shows t.game letter over w es out exit r → Plays (Ok t) m old new out exit r
shown t m old new out exit r letter over w es i e n b s =
    let l : line_shown letter over w es (snakes_in w) ≡ t.text =
    ap (λ (u : List ℕ). line_shown letter over u es (snakes_in u)) i
    ∙ ap (λ (k : ℕ). line_shown letter over (image_of t.next) es k) (snakes_is t.next)
    ∙ line_shown_lem t.next letter over es ∙ e in
    record { more = s.more; game = s.game; words = s.words ∙ ap length i; image = n; long = ap length n ∙ over_same (image_of t.next) old b; text = rw (← l) s.text }

-- the words of an image that fits say at most eight snakes
pub few_in : (t : State) (w : List ℕ) → w ≡ image_of t → count t ≤ 8 → snakes_in w ≤ 8
few_in t w e h = rw (e, snakes_is t) h

-- the events of a move's line, by the words and by the state
pub events_shown_lem : (m : Match) (over : Bool) (t : State) (es : List Event) → count t ≤ 8 → events_shown m over (image_of t) es ≡ (marked t es if ends_by m over else es)
events_shown_lem m over t es h =
    ap (λ (l : List Event). l if ends_by m over else es)
    (ap (λ (k : ℕ). filled (mark_shown (image_of t) es) (few k) 8 blank) (snakes_is t)
    ∙ ap (λ (b : Bool). filled (mark_shown (image_of t) es) (8 if b else count t) 8 blank) (le-ltb 8 (count t) h)
    ∙ marks_shown t es)

-- the line of a move: its events are marked where max_ticks ends the match
pub shown_move : (m : Match) (o : Transition) (old new out exit : List ℕ) (r : Turned) (w : List ℕ) → w ≡ image_of o.next → new ≡ over_front (image_of o.next) old
    → count o.next ≤ 8 → length (image_of o.next) ≤ length old
    → (over : Bool) (es : List Event) → over ≡ o.terminal → es ≡ eight o.events
    → Shows (moved m over es) 109 over w (events_shown m over w es) out exit r → Plays (Ok (moved_turn m o)) m old new out exit r
unfolding moved_turn
shown_move m o old new out exit r w i n c b over es p q s =
    let t : Bool = o.terminal in
    let v : List Event = eight o.events in
    let g : events_shown m t w v ≡ (marked o.next v if ends_by m t else v) = ap (λ (u : List ℕ). events_shown m t u v) i ∙ events_shown_lem m t o.next v c in
    let a : Shows (moved m t v) 109 t w (events_shown m t w v) out exit r = rw (← p, ← q) s in
    shown (moved_turn m o) m old new out exit r 109 t w (events_shown m t w v) i (ap (line_text 109 t o.next) g) n b a

-- a line that is refused before any call
pub refused_line : (m : Match) (k : Refusal) (old out exit : List ℕ) (r : Turned) → Stops m (code_of k) out exit r → Plays (Err k) m old old out exit r
refused_line m k old out exit r s = record { more = s.more; game = s.game; words = s.words; image = refl; long = refl; text = s.text }

-- '33 comes before 32'
module _ (m : Match) (w line : List ℕ) (room cells : ℕ) where
  pub turn_over : m.over ≡ true → turn_says m w line room cells ≡ Err Refusal.Over
  unfolding turn_says
  turn_over e = ap (λ (b : Bool). Err Refusal.Over if b else asked m w room cells (read_later (snakes_of m) line)) e

  pub turn_on : m.over ≡ false → turn_says m w line room cells ≡ asked m w room cells (read_later (snakes_of m) line)
  unfolding turn_says
  turn_on e = ap (λ (b : Bool). Err Refusal.Over if b else asked m w room cells (read_later (snakes_of m) line)) e

-- ---- the image of a desk takes the place of the one before it

-- a line that stops leaves the image; one that goes on has given a turn
pub stays : (x : Says Turn) (m : Match) (b old new out exit : List ℕ) (r : Turned) → Plays x m old new out exit r → r.more ≡ false → Plays x m b b out exit r
stays (Err k) m b old new out exit r p e = record { more = p.more; game = p.game; words = p.words; image = refl; long = refl; text = p.text }
stays (Ok t) m b old new out exit r p e = absurd (true≢false (sym p.more ∙ e))

pub moves_on : (x : Says Turn) (m : Match) (b old new out exit : List ℕ) (r : Turned) → Plays x m old new out exit r → r.more ≡ true → length old ≤ length b
    → Plays x m b (write_at b 0 (take r.words new)) out exit r
moves_on (Err k) m b old new out exit r p e h = absurd (false≢true (sym p.more ∙ e))
moves_on (Ok t) m b old new out exit r p e h =
    let f : take r.words new ≡ image_of t.next = rw (p.words, p.image) (over_take (image_of t.next) old) in
    let w : write_at b 0 (take r.words new) ≡ over_front (image_of t.next) b = ap (write_at b 0) f ∙ write_front b (image_of t.next) in
    let l : length (image_of t.next) ≤ length b = omega (arith, p.long, ap length p.image, over_long (image_of t.next) old) in
    record { more = p.more; game = p.game; words = p.words; image = w; long = ap length w ∙ over_same (image_of t.next) b l; text = p.text }

-- ---- the first line, and the others

module _ (d : Desk) where
  pub close_begun : d.begun ≡ true → close_text d ≡ end_text d.game
  unfolding close_text
  close_begun e = ap (λ (b : Bool). end_text d.game if b else refusal_text 32) e

  pub close_new : d.begun ≡ false → close_text d ≡ refusal_text 32
  unfolding close_text
  close_new e = ap (λ (b : Bool). end_text d.game if b else refusal_text 32) e

  module _ (w line : List ℕ) (room cells : ℕ) where
    pub line_begun : d.begun ≡ true → line_says d w line room cells ≡ turn_says d.game w line room cells
    unfolding line_says
    line_begun e = ap (λ (b : Bool). turn_says d.game w line room cells if b else begin_says line room) e

    pub line_new : d.begun ≡ false → line_says d w line room cells ≡ begin_says line room
    unfolding line_says
    line_new e = ap (λ (b : Bool). turn_says d.game w line room cells if b else begin_says line room) e

-- the words of the answer stand in the buffer
pub words_fit : (x : Says Turn) (m : Match) (old new out exit : List ℕ) (r : Turned) → Plays x m old new out exit r → r.words ≤ length new
words_fit (Err k) m old new out exit r p = rw p.words (omega arith)
words_fit (Ok t) m old new out exit r p = rw (p.words, p.image) (over_long (image_of t.next) old)
