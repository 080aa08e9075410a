-- From what a call of the arena promises to the line that it plays: a refusal stops the match, an image is shown. Assumes nothing.
use Rattle.std.specs.Prelude.{Ok, Err}
use Prim.Native.Nat.{ℕ, ◌≤◌}
use mathlib.Core.Path.{◌≡◌, refl, sym, ap, ◌∙◌}
use mathlib.Core.Bool.{false}
use mathlib.Core.List.{List}
use lib.ListN.{length, take, replicate}
use Rattle.rules.specs.Image.{image_of, snakes_in}
use Rattle.rules.specs.Events.{blank}
use Rattle.rules.specs.Step.{Transition}
use Rattle.rules.specs.Says.{Says, seen, lent}
use Rattle.rules.specs.Calls.{stepped_of, drawn_of, initial_says, step_says, Draw, draw_says}
use Rattle.rules.specs.Promises.{Starts, Steps, Draws}
use Rattle.rules.specs.Refusals.{code_of}
use Rattle.rules.specs.declared.Drawn.{Drawn}
use Rattle.rules.specs.declared.Event.{Event}
use Rattle.rules.specs.declared.refusal.Refusal.{Refusal}
use Rattle.rules.specs.declared.Setting.{Setting}
use Rattle.rules.specs.declared.Stepped.{Stepped}
use Rattle.printing.specs.Text.{line_text}
use Rattle.standing.specs.Shown.{events_shown}
use Rattle.standing.specs.Standing.{fresh, moved}
use Rattle.standing.specs.declared.Match.{Match}
use Rattle.referee.specs.Match.{Turn, opened, drawn_turn, moved_turn, Plays, Stops, Shows}
use Rattle.referee.specs.declared.Turned.{Turned}
use Rattle.referee.proofs.Saying.{refused_by, Fits, initial_fits, step_fits, draw_fits}
use Rattle.referee.proofs.Playing.{Done, done, done_by, stopped, shown, shown_move, few_in}

-- ---- any call: it says x, its answer is x seen through h, and the lent words are new

module _ {A B : Type 0} (f : A → Turn) (h : A → B) (x : Says A) (old new : List ℕ) (a : Says B)
    (pa : a ≡ seen h x) (pw : new ≡ lent (λ t. image_of (f t).next) old x) where
  stops_by : (k : Refusal) → a ≡ Err k → (m : Match) (out exit : List ℕ) (r : Turned) → Stops m (code_of k) out exit r → Plays (seen f x) m old new out exit r
  stops_by k told m out exit r s = stopped f x m old new out exit r k (refused_by x h k (sym told ∙ pa)) pw s

  -- it gave b, whose words count those of the image
  module _ (b : B) (told : a ≡ Ok b) (words : B → ℕ) (counts : (t : A) → words (h t) ≡ length (image_of (f t).next)) where
    gave : Done (λ t. (f t).next) h old new b (words b) x
    gave = done_by (λ t. (f t).next) h old new b words counts x (sym told ∙ pa) pw

    words_by : words b ≤ length new
    words_by = elim gave [ done t e v p u g l ↦ l ]

    module _ (fits : (t : A) → x ≡ Ok t → Fits (f t).next (length old)) where
      few_by : snakes_in (take (words b) new) ≤ 8
      few_by = elim gave [ done t e v p u g l ↦ few_in (f t).next (take (words b) new) g (fits t e).few ]

      shows_by : (letter : ℕ) (es : List Event) → ((t : A) → line_text letter false (f t).next es ≡ (f t).text)
          → (game : Match) → ((t : A) → (f t).game ≡ game)
          → (m : Match) (out exit : List ℕ) (r : Turned) → Shows game letter false (take (words b) new) es out exit r → Plays (seen f x) m old new out exit r
      shows_by letter es text game same m out exit r s = elim gave [
        | done t e v p u g l ↦ rw e (shown (f t) m old new out exit r letter false (take (words b) new) es g (text t) u (fits t e).short (rw (same t) s))
      ]

-- ---- the first line

module _ (s : Setting) (old new : List ℕ) (a : Says ℕ) (q : Starts s old new a) where
  pub open_stops : (k : Refusal) → a ≡ Err k
      → (m : Match) (out exit : List ℕ) (r : Turned) → Stops m (code_of k) out exit r → Plays (seen (opened s) (initial_says s (length old))) m old new out exit r
  open_stops = stops_by (opened s) (λ t. length (image_of t)) (initial_says s (length old)) old new a q.answer q.words

  module _ (n : ℕ) (told : a ≡ Ok n) where
    pub open_words : n ≤ length new
    open_words = words_by (opened s) (λ t. length (image_of t)) (initial_says s (length old)) old new a q.answer q.words n told (λ n. n) (λ t. refl)

    pub open_few : snakes_in (take n new) ≤ 8
    open_few =
        few_by (opened s) (λ t. length (image_of t)) (initial_says s (length old)) old new a q.answer q.words n told (λ n. n) (λ t. refl) (initial_fits s (length old))

    pub open_shows : (game : Match) → game ≡ fresh s → (es : List Event) → es ≡ replicate 8 blank
        → (m : Match) (out exit : List ℕ) (r : Turned) → Shows game 105 false (take n new) es out exit r → Plays (seen (opened s) (initial_says s (length old))) m old new out exit r
    open_shows game pg es pe m out exit r shows =
        shows_by (opened s) (λ t. length (image_of t)) (initial_says s (length old)) old new a q.answer q.words n told (λ n. n) (λ t. refl) (initial_fits s (length old))
        105 (replicate 8 blank) (λ t. refl) (fresh s) (λ t. refl) m out exit r (rw (pg, pe) at shows)

-- ---- a draw

module _ (w : List ℕ) (i : ℕ) (old new cells after : List ℕ) (a : Says Drawn) (q : Draws w i old new cells after a) (m : Match) where
  abbrev drew : Says Draw
  drew = draw_says w i (length old) (length cells)

  pub draw_stops : (k : Refusal) → a ≡ Err k → (out exit : List ℕ) (r : Turned) → Stops m (code_of k) out exit r → Plays (seen (drawn_turn m) drew) m old new out exit r
  draw_stops k told = stops_by (drawn_turn m) drawn_of drew old new a q.answer q.words k told m

  module _ (d : Drawn) (told : a ≡ Ok d) where
    pub draw_words : d.words ≤ length new
    draw_words = words_by (drawn_turn m) drawn_of drew old new a q.answer q.words d told (λ d. d.words) (λ t. refl)

    pub draw_few : snakes_in (take d.words new) ≤ 8
    draw_few = few_by (drawn_turn m) drawn_of drew old new a q.answer q.words d told (λ d. d.words) (λ t. refl) (draw_fits w i (length old) (length cells))

    pub draw_shows : (es : List Event) → es ≡ replicate 8 blank
        → (out exit : List ℕ) (r : Turned) → Shows m 100 false (take d.words new) es out exit r → Plays (seen (drawn_turn m) drew) m old new out exit r
    draw_shows es pe out exit r shows =
        shows_by (drawn_turn m) drawn_of drew old new a q.answer q.words d told (λ d. d.words) (λ t. refl) (draw_fits w i (length old) (length cells))
        100 (replicate 8 blank) (λ t. refl) m (λ t. refl) m out exit r (rw pe at shows)

-- ---- a move

module _ (m : Match) (w acts old new : List ℕ) (a : Says Stepped) (q : Steps m.setting w acts old new a) where
  abbrev made : Says Transition
  made = step_says m.setting w acts (length old)

  pub move_stops : (k : Refusal) → a ≡ Err k → (out exit : List ℕ) (r : Turned) → Stops m (code_of k) out exit r → Plays (seen (moved_turn m) made) m old new out exit r
  unfolding moved_turn
  move_stops k told = stops_by (moved_turn m) stepped_of made old new a q.answer q.words k told m

  module _ (s : Stepped) (told : a ≡ Ok s) where
    pub move_words : s.words ≤ length new
    unfolding moved_turn
    move_words = words_by (moved_turn m) stepped_of made old new a q.answer q.words s told (λ s. s.words) (λ o. refl)

    pub move_few : snakes_in (take s.words new) ≤ 8
    unfolding moved_turn
    move_few = few_by (moved_turn m) stepped_of made old new a q.answer q.words s told (λ s. s.words) (λ o. refl) (step_fits m.setting w acts (length old))

    pub move_shows : (out exit : List ℕ) (r : Turned)
        → Shows (moved m s.terminal s.events) 109 s.terminal (take s.words new) (events_shown m s.terminal (take s.words new) s.events) out exit r
        → Plays (seen (moved_turn m) made) m old new out exit r
    unfolding moved_turn
    move_shows out exit r shows = elim (gave (moved_turn m) stepped_of made old new a q.answer q.words s told (λ s. s.words) (λ o. refl)) [
      | done o e v p u g l ↦
          let f = step_fits m.setting w acts (length old) o e in
          rw e (shown_move m o old new out exit r (take s.words new) g u f.few f.short s.terminal s.events (ap (λ (s : Stepped). s.terminal) v) (ap (λ (s : Stepped). s.events) v) shows)
    ]
