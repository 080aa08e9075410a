-- What the arena's answer says, the exported call says in numbers, with the same lent memory. Assumes nothing.
use Rattle.std.specs.Prelude.{Option, Some, None, Ok, Err}
use Prim.Native.Nat.{ℕ}
use mathlib.Core.Path.{◌≡◌, refl, sym, ap, ap₂, ◌∙◌}
use mathlib.Core.Bool.{Bool, true, false}
use mathlib.Core.List.{List, [], ◌∷◌}
use native.Mathlib.Omega.{arith}
use lib.IntN.{ℤ}
use lib.Ieee.{Float}
use lib.ListN.{length}
use Rattle.lists.specs.Choice.{bit}
use Rattle.rules.specs.Headings.{number_of, turned}
use Rattle.rules.specs.Image.{image_of}
use Rattle.rules.specs.Step.{Transition}
use Rattle.rules.specs.View.{lit}
use Rattle.rules.specs.Says.{Says, chance_of, actions_of, shape_of, seen, lent, Shape}
use Rattle.rules.specs.Calls.{stepped_of, drawn_of, setting_says, image_says, initial_says, step_says, struck_says, observe_says, Draw, draw_says, actor_says, legal_says, key_says, truncation_says, reward_says, space_says, action_says}
use Rattle.rules.specs.Promises.{Turns, Examines, Validates, Starts, Steps, Strikes, Observes, Draws, ActsNext, Allows, Keys, Truncates, Rewards, ObservationSpace, ActionSpace}
use Rattle.rules.specs.declared.Heading.{Heading}
use Rattle.rules.specs.declared.RelativeAction.{RelativeAction}
use Rattle.rules.specs.declared.refusal.Refusal.{Refusal}
use Rattle.rules.specs.declared.Setting.{Setting}
use Rattle.rules.specs.declared.Weights.{Weights}
use Rattle.rules.specs.declared.Event.{Event}
use Rattle.rules.specs.declared.Hit.{Hit}
use Rattle.rules.specs.declared.Stepped.{Stepped}
use Rattle.rules.specs.declared.Drawn.{Drawn}
use Rattle.rules.specs.declared.Actor.{Actor}
use Rattle.rules.specs.declared.Actor.TheVariants.{Chance, Simultaneous}
use Rattle.rules.specs.declared.Legal.{Legal}
use Rattle.rules.specs.declared.Legal.TheVariants.{AnyAction, NoAction}
use Rattle.rules.specs.declared.Space.{Space}
use Rattle.rules.specs.declared.Space.TheVariants.{Box, Discrete}
use Rattle.contents.specs.declared.Span.{Span}
use Rattle.book.specs.Calls.{write_says, page_says}
use Rattle.book.specs.Promises.{Pages, Writes as Binds}
use Rattle.flat.specs.Flat.{refusal_number, event_bytes, events_bytes, hits_words}
use Rattle.bindings.specs.Exports.{refusal_of, told, one, bit_number, whole, key_numbers, action_numbers, shape_numbers, shape_bounds, span_numbers, Tells, Writes, FlatSpace, FlatSteps, FlatDraws}
pub use Rattle.telling.proofs.Saying.{given, refused, tells_by}

abbrev Apart : Type 0
Apart = ◌≡◌ {A = ℕ} 0 1

module _ (w : List ℕ) (a : Says (Option ℕ)) (q : Keys w a) (old : List ℕ) where
  pub key_told : (k : Option ℕ) → a ≡ Ok k → (n : ℕ) → k ≡ Some n → Tells key_numbers (key_says w) old (1 ∷ n ∷ []) 0
  key_told k e n s = given key_numbers (key_says w) old (Some n) (ap Ok (sym s) ∙ sym e ∙ q.answer)

  pub no_key_told : (k : Option ℕ) → a ≡ Ok k → k ≡ None → Tells key_numbers (key_says w) old (0 ∷ 0 ∷ []) 0
  no_key_told k e s = given key_numbers (key_says w) old None (ap Ok (sym s) ∙ sym e ∙ q.answer)

  pub key_refused : (k : Refusal) → a ≡ Err k → (r : ℕ) → r ≡ refusal_number k → Tells key_numbers (key_says w) old old r
  key_refused k e = refused key_numbers (key_says w) old k (sym e ∙ q.answer)

module _ (w : List ℕ) (a : Says Actor) (q : ActsNext w a) (old : List ℕ) where
  actor_told : (b : Actor) → a ≡ Ok b → Tells bit_number (actor_says w) old (bit_number (chance_of b)) 0
  actor_told b e = given bit_number (actor_says w) old (chance_of b) (ap (seen chance_of) (sym e) ∙ q.answer)

  pub chance_told : (b : Actor) → a ≡ Ok b → b ≡ Chance → Tells bit_number (actor_says w) old (1 ∷ []) 0
  chance_told b e s = actor_told Chance (e ∙ ap Ok s)

  pub all_told : (b : Actor) → a ≡ Ok b → b ≡ Simultaneous → Tells bit_number (actor_says w) old (0 ∷ []) 0
  all_told b e s = actor_told Simultaneous (e ∙ ap Ok s)

  pub actor_refused : (k : Refusal) → a ≡ Err k → (r : ℕ) → r ≡ refusal_number k → Tells bit_number (actor_says w) old old r
  actor_refused k e = refused bit_number (actor_says w) old k (ap (seen chance_of) (sym e) ∙ q.answer)

module _ (w : List ℕ) (i : ℕ) (a : Says Legal) (q : Allows w i a) (old : List ℕ) where
  legal_told : (b : Legal) → a ≡ Ok b → Tells action_numbers (legal_says w i) old (action_numbers (actions_of b)) 0
  legal_told b e = given action_numbers (legal_says w i) old (actions_of b) (ap (seen actions_of) (sym e) ∙ q.answer)

  pub any_told : (b : Legal) → a ≡ Ok b → b ≡ AnyAction → Tells action_numbers (legal_says w i) old (3 ∷ []) 0
  any_told b e s = legal_told AnyAction (e ∙ ap Ok s)

  pub none_told : (b : Legal) → a ≡ Ok b → b ≡ NoAction → Tells action_numbers (legal_says w i) old (0 ∷ []) 0
  none_told b e s = legal_told NoAction (e ∙ ap Ok s)

  pub legal_refused : (k : Refusal) → a ≡ Err k → (r : ℕ) → r ≡ refusal_number k → Tells action_numbers (legal_says w i) old old r
  legal_refused k e = refused action_numbers (legal_says w i) old k (ap (seen actions_of) (sym e) ∙ q.answer)

module _ (b : List ℕ) (i : ℕ) (a : Says Span) (q : Pages b i a) (old : List ℕ) where
  pub page_told : (s : Span) → a ≡ Ok s → Tells span_numbers (page_says b i) old (s.start ∷ s.len ∷ []) 0
  page_told s e = given span_numbers (page_says b i) old s (sym e ∙ q.answer)

  pub page_refused : (k : Refusal) → a ≡ Err k → (r : ℕ) → r ≡ refusal_number k → Tells span_numbers (page_says b i) old old r
  page_refused k e = refused span_numbers (page_says b i) old k (sym e ∙ q.answer)

-- e is what the caller's bytes are read as
module _ (w : List ℕ) (i : ℕ) (e e' : Event) (a : Says Event) (q : Truncates w i e a) (p : e ≡ e') (old : List ℕ) where
  same_mark : a ≡ truncation_says w i e'
  same_mark = q.answer ∙ ap (truncation_says w i) p

  pub mark_told : (m : Event) → a ≡ Ok m → (bytes : List ℕ) → bytes ≡ event_bytes m → Tells event_bytes (truncation_says w i e') old bytes 0
  mark_told m t bytes b = rw b (given event_bytes (truncation_says w i e') old m (sym t ∙ same_mark))

  pub mark_refused : (k : Refusal) → a ≡ Err k → (r : ℕ) → r ≡ refusal_number k → Tells event_bytes (truncation_says w i e') old old r
  mark_refused k t = refused event_bytes (truncation_says w i e') old k (sym t ∙ same_mark)

module _ (w w' : Weights) (e e' : Event) (a : Says Float) (q : Rewards w e a) (p : w ≡ w') (s : e ≡ e') (old : List Float) where
  same_sum : a ≡ reward_says w' e'
  same_sum = q.answer ∙ ap₂ reward_says p s

  pub sum_told : (x : Float) → a ≡ Ok x → Tells one (reward_says w' e') old (x ∷ []) 0
  sum_told x t = given one (reward_says w' e') old x (sym t ∙ same_sum)

  pub sum_refused : (k : Refusal) → a ≡ Err k → (r : ℕ) → r ≡ refusal_number k → Tells one (reward_says w' e') old old r
  sum_refused k t = refused one (reward_says w' e') old k (sym t ∙ same_sum)

-- ---- no lent array

module _ (w : List ℕ) (a : Says (Unit {0})) (q : Examines w a) where
  pub image_accepted : a ≡ Ok tt → 0 ≡ refusal_of (image_says w)
  image_accepted e = ap refusal_of (sym e ∙ q.answer)

  pub image_refused : (k : Refusal) → a ≡ Err k → (r : ℕ) → r ≡ refusal_number k → r ≡ refusal_of (image_says w)
  image_refused k e r n = n ∙ ap refusal_of (sym e ∙ q.answer)

module _ (s s' : Setting) (a : Says (Unit {0})) (q : Validates s a) (p : s ≡ s') where
  pub setting_accepted : a ≡ Ok tt → 0 ≡ refusal_of (setting_says s')
  setting_accepted e = ap refusal_of (sym e ∙ q.answer ∙ ap setting_says p)

  pub setting_refused : (k : Refusal) → a ≡ Err k → (r : ℕ) → r ≡ refusal_number k → r ≡ refusal_of (setting_says s')
  setting_refused k e r n = n ∙ ap refusal_of (sym e ∙ q.answer ∙ ap setting_says p)

-- ---- a space

module _ (a : Says Space) (old : List ℕ) (bounds : List Float) where
  space_told : (s : Space) → a ≡ Ok s → FlatSpace (seen shape_of a) old (shape_numbers (shape_of s)) bounds (shape_bounds (shape_of s)) 0
  space_told s e = record {
    refusal = ap (λ (a : Says Space). refusal_of (seen shape_of a)) (sym e);
    sizes = ap (λ (a : Says Space). told shape_numbers old (seen shape_of a)) (sym e);
    bounds = ap (λ (a : Says Space). told shape_bounds bounds (seen shape_of a)) (sym e);
  }

  pub box_told : (s : Space) → a ≡ Ok s → (p h w : ℕ) (l t : Float) → s ≡ Box p h w l t → FlatSpace (seen shape_of a) old (0 ∷ 0 ∷ p ∷ h ∷ w ∷ []) bounds (l ∷ t ∷ []) 0
  box_told s e p h w l t q = space_told (Box p h w l t) (e ∙ ap Ok q)

  pub discrete_told : (s : Space) → a ≡ Ok s → (n : ℕ) → s ≡ Discrete n → FlatSpace (seen shape_of a) old (1 ∷ n ∷ 0 ∷ 0 ∷ 0 ∷ []) bounds (lit false ∷ lit false ∷ []) 0
  discrete_told s e n q = space_told (Discrete n) (e ∙ ap Ok q)

  pub space_refused : (k : Refusal) → a ≡ Err k → (r : ℕ) → r ≡ refusal_number k → FlatSpace (seen shape_of a) old old bounds bounds r
  space_refused k e r n = record {
    refusal = n ∙ ap (λ (a : Says Space). refusal_of (seen shape_of a)) (sym e);
    sizes = ap (λ (a : Says Space). told shape_numbers old (seen shape_of a)) (sym e);
    bounds = ap (λ (a : Says Space). told shape_bounds bounds (seen shape_of a)) (sym e);
  }

module _ (a : Says Space) (old new : List ℕ) (bounds new_bounds : List Float) (r : ℕ) (t : FlatSpace (seen shape_of a) old new bounds new_bounds r) where
  same_space : (x : Says Shape) → seen shape_of a ≡ x → FlatSpace x old new bounds new_bounds r
  same_space x e = record { refusal = t.refusal ∙ ap refusal_of e; sizes = t.sizes ∙ ap (told shape_numbers old) e; bounds = t.bounds ∙ ap (told shape_bounds bounds) e }

  -- g is what the caller's number is read as
  pub seen_space : (g g' : ℤ) → ObservationSpace g a → g ≡ g' → FlatSpace (space_says g') old new bounds new_bounds r
  seen_space g g' q p = same_space (space_says g') (q.answer ∙ ap space_says p)

pub action_space : (a : Space) (old new : List ℕ) (bounds new_bounds : List Float) (r : ℕ) → FlatSpace (seen shape_of (Ok a)) old new bounds new_bounds r → ActionSpace a
    → FlatSpace action_says old new bounds new_bounds r
action_space a old new bounds new_bounds r t q = same_space (Ok a) old new bounds new_bounds r t action_says q.answer

-- ---- a buffer, and how many words were written

module _ {A B : Type 0} (f : A → List B) where
  same_refusal : (x : Says A) → refusal_of (seen (λ a. length (f a)) x) ≡ refusal_of x
  same_refusal (Err k) = refl
  same_refusal (Ok a) = refl

  same_count : (count : List ℕ) (x : Says A) → told one count (seen (λ a. length (f a)) x) ≡ told (λ a. one (length (f a))) count x
  same_count count (Err k) = refl
  same_count count (Ok a) = refl

  pub written : (x : Says A) (old new : List B) (a : Says ℕ) (count now : List ℕ) (r : ℕ) → Tells one a count now r → a ≡ seen (λ a. length (f a)) x → new ≡ lent f old x
      → Writes f x old new count now r
  written x old new a count now r t e q = record {
    refusal = t.refusal ∙ ap refusal_of e ∙ same_refusal x;
    count = t.answer ∙ ap (told one count) e ∙ same_count count x;
    words = q;
  }

module _ (a : Says ℕ) (count now : List ℕ) (r : ℕ) (t : Tells one a count now r) where
  pub start_told : (s s' : Setting) (old new : List ℕ) → Starts s old new a → s ≡ s' → Writes image_of (initial_says s' (length old)) old new count now r
  start_told s s' old new q p = rw (← p) (written image_of (initial_says s (length old)) old new a count now r t q.answer q.words)

  pub view_told : (w : List ℕ) (i : ℕ) (old new : List Float) → Observes w i old new a → Writes whole (observe_says w i (length old)) old new count now r
  view_told w i old new q = written whole (observe_says w i (length old)) old new a count now r t q.answer q.numbers

  pub book_told : (s s' : Setting) (p : ℕ) (row old new : List ℕ) → Binds s p row old new a → s ≡ s' → Writes whole (write_says s' p row (length old)) old new count now r
  book_told s s' p row old new q e = rw (← e) (written whole (write_says s p row (length old)) old new a count now r t q.answer q.words)

-- ---- a draw

module _ (old new list after counts : List ℕ) where
  drawn_done : (x : Says Draw) (d : Drawn) → Ok d ≡ seen drawn_of x → new ≡ lent (λ v. image_of v.next) old x → after ≡ lent (λ v. v.cells) list x
      → FlatDraws x old new list after counts (d.words ∷ d.cells ∷ []) 0
  drawn_done (Err k) d p q l = let z : Apart = cc in absurd (omega arith)
  drawn_done (Ok v) d p q l =
      let e : d ≡ drawn_of v = cc in
      record { refusal = refl; words = q; list = l; counts = ap (λ (x : Drawn). x.words ∷ x.cells ∷ []) e }

  not_drawn : (x : Says Draw) (k : Refusal) → Err k ≡ seen drawn_of x → new ≡ lent (λ v. image_of v.next) old x → after ≡ lent (λ v. v.cells) list x
      → (r : ℕ) → r ≡ refusal_number k → FlatDraws x old new list after counts counts r
  not_drawn (Err j) k p q l r e = let s : k ≡ j = cc in record { refusal = e ∙ ap refusal_number s; words = q; list = l; counts = refl }
  not_drawn (Ok v) k p q l r e = let z : Apart = cc in absurd (omega arith)

module _ (w : List ℕ) (i : ℕ) (old new list after : List ℕ) (a : Says Drawn) (q : Draws w i old new list after a) (counts : List ℕ) where
  pub draw_told : (d : Drawn) → a ≡ Ok d → FlatDraws (draw_says w i (length old) (length list)) old new list after counts (d.words ∷ d.cells ∷ []) 0
  draw_told d e = drawn_done old new list after counts (draw_says w i (length old) (length list)) d (sym e ∙ q.answer) q.words q.list

  pub draw_refused : (k : Refusal) → a ≡ Err k → (r : ℕ) → r ≡ refusal_number k → FlatDraws (draw_says w i (length old) (length list)) old new list after counts counts r
  draw_refused k e = not_drawn old new list after counts (draw_says w i (length old) (length list)) k (sym e ∙ q.answer) q.words q.list

-- ---- a step

module _ (old new : List ℕ) (events : List (List ℕ)) (end : List ℕ) where
  moved : (x : Says Transition) (d : Stepped) → Ok d ≡ seen stepped_of x → new ≡ lent (λ o. image_of o.next) old x
      → FlatSteps x old new events (events_bytes d.events) end (d.words ∷ bit d.terminal ∷ []) 0
  moved (Err k) d p q = let z : Apart = cc in absurd (omega arith)
  moved (Ok o) d p q =
      let e : d ≡ stepped_of o = cc in
      record { refusal = refl; words = q; events = ap (λ (x : Stepped). events_bytes x.events) e; end = ap (λ (x : Stepped). x.words ∷ bit x.terminal ∷ []) e }

  not_moved : (x : Says Transition) (k : Refusal) → Err k ≡ seen stepped_of x → new ≡ lent (λ o. image_of o.next) old x → (r : ℕ) → r ≡ refusal_number k
      → FlatSteps x old new events events end end r
  not_moved (Err j) k p q r e = let s : k ≡ j = cc in record { refusal = e ∙ ap refusal_number s; words = q; events = refl; end = refl }
  not_moved (Ok o) k p q r e = let z : Apart = cc in absurd (omega arith)

module _ (s s' : Setting) (w acts old new : List ℕ) (a : Says Stepped) (q : Steps s w acts old new a) (p : s ≡ s') (events : List (List ℕ)) (end : List ℕ) where
  pub step_told : (d : Stepped) → a ≡ Ok d → (bytes : List (List ℕ)) → bytes ≡ events_bytes d.events → (b : ℕ) → b ≡ bit d.terminal
      → FlatSteps (step_says s' w acts (length old)) old new events bytes end (d.words ∷ b ∷ []) 0
  step_told d e bytes v b t = rw (v, t, ← p) (moved old new events end (step_says s w acts (length old)) d (sym e ∙ q.answer) q.words)

  pub step_refused : (k : Refusal) → a ≡ Err k → (r : ℕ) → r ≡ refusal_number k → FlatSteps (step_says s' w acts (length old)) old new events events end end r
  step_refused k e r n = rw (← p) (not_moved old new events end (step_says s w acts (length old)) k (sym e ∙ q.answer) q.words r n)

-- ---- who was hit where

module _ (s s' : Setting) (w acts : List ℕ) (a : Says (List (Option Hit))) (q : Strikes s w acts a) (p : s ≡ s') (old : List (List ℕ)) where
  pub struck_told : (hs : List (Option Hit)) → a ≡ Ok hs → (new : List (List ℕ)) → new ≡ hits_words hs → Tells hits_words (struck_says s' w acts) old new 0
  struck_told hs e new v = rw (v, ← p) (given hits_words (struck_says s w acts) old hs (sym e ∙ q.answer))

  pub struck_refused : (k : Refusal) → a ≡ Err k → (r : ℕ) → r ≡ refusal_number k → Tells hits_words (struck_says s' w acts) old old r
  struck_refused k e r n = rw (← p) (refused hits_words (struck_says s w acts) old k (sym e ∙ q.answer) r n)

-- ---- a turn

pub turn_told : (h h' : Heading) (a a' : RelativeAction) (to : Heading) → Turns h a to → h ≡ h' → a ≡ a' → (n : ℕ) → n ≡ number_of to → (old : List ℕ)
    → Tells one (Ok (number_of (turned h' a'))) old (n ∷ []) 0
turn_told h h' a a' to q p s n e old = record { refusal = refl; answer = ap one (e ∙ ap number_of (q.answer ∙ ap₂ turned p s)) }
