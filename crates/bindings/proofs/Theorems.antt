-- The flat answers lose nothing: refusal 0 says that an answer came, reading the flat form back gives what the call says, and two answers that meet
-- one promise are equal, with the lent memory. Assumes nothing.
use Rattle.std.specs.Prelude.{Option, Some, None, Ok, Err}
use Prim.Native.Nat.{ℕ, ◌<◌}
use mathlib.Core.Path.{◌≡◌, refl, sym, ap, ◌∙◌}
use mathlib.Core.Bool.{Bool, true, false, not, ◌&&◌}
use mathlib.Core.List.{List, [], ◌∷◌, ◌++◌, append-nil}
use lib.Dec.{eqb, ltb}
use borrow.Author.Tests.{not-true, ltb-true, lt-ltb, ne_eqb}
use native.Mathlib.Omega.{arith}
use lib.IntN.{ℤ}
use lib.Ieee.{Float, nan}
use lib.ListN.{length, get_or, take, drop}
use lib.Seq.{take-append_seam}
use Rattle.lists.specs.Choice.{◌if◌else◌}
use Rattle.lists.specs.Below.{each_below}
use Rattle.lists.specs.Lists.{all, over_front}
use Rattle.rules.specs.Tables.{Table}
use Rattle.rules.specs.Faults.{image_rows}
use Rattle.lists.proofs.Tests.{and_left, and_right, both}
use Rattle.rules.proofs.Tables.{and_then, table_after}
use Rattle.flat.proofs.Words.{fault_word}
use Rattle.rules.specs.State.{State, snake_of}
use Rattle.rules.specs.Events.{blank, eight}
use Rattle.rules.specs.Image.{image_of, state_of}
use Rattle.rules.specs.Step.{Transition, stepped}
use Rattle.rules.specs.Struck.{hits_in}
use Rattle.rules.specs.Chance.{outcomes, rank_of}
use Rattle.rules.specs.View.{view, lit}
use Rattle.rules.specs.LengthKey.{length_key}
use Rattle.rules.specs.Turns.{chance_acts, legal_for, truncated}
use Rattle.rules.specs.Reward.{reward_of}
use Rattle.rules.specs.Setting.{setting_order, side_of, initial_state}
use Rattle.rules.specs.Says.{Says, by_table, Shape, box, discrete}
use Rattle.rules.specs.Calls.{setting_says, image_says, initial_says, step_says, struck_says, observe_says, count_says, Draw, draw_says, rank_says, actor_says, legal_says, key_says, truncation_says, reward_says, space_says}
use Rattle.rules.specs.Orders.{initial_order, asked_rows, asked_order, due_rows, count_order, draw_rows, rank_rows, reward_order, space_order}
use Rattle.rules.specs.declared.refusal.Refusal.{Refusal}
use Rattle.unit.specs.UnitNumber.{outcome_of}
use Rattle.unit.specs.Orders.{outcome_order}
use Rattle.unit.specs.Calls.{outcome_says}
use Rattle.rules.specs.declared.Setting.{Setting}
use Rattle.rules.specs.declared.Weights.{Weights}
use Rattle.rules.specs.declared.Event.{Event}
use Rattle.rules.specs.declared.Hit.{Hit}
use Rattle.flat.specs.Flat.{flag_in, event_in, refusal_number, refusal_in, events_bytes, unhit, hit_words, hits_words}
use Rattle.flat.proofs.Theorems.{flag_back, event_back, refusal_back}
use Rattle.bindings.specs.Exports.{one, bit_number, key_numbers, action_numbers, shape_numbers, shape_bounds, Tells, Writes, FlatSpace, FlatSteps, FlatDraws, FlatBody}
use Rattle.rules.specs.Refusals.{code_of, word_shown}

-- ---- no call refuses by 0, so that refusal 0 says that an answer came; each number is below 256 and each word below 65,536, so that one number tells both

abbrev pub tellable : Refusal → Bool
tellable k = ltb 0 (code_of k) && (ltb (code_of k) 256 && ltb (word_shown k) 65536)

unfoldable pub named : {A : Type 0} → Says A → Bool
named (Err k) = tellable k
named (Ok a) = true

module _ {A : Type 0} where
  -- each row of a table
  pub table_named : (t : Table) (r : Says A) → all (λ (e : Refusal × Bool). tellable e.0) t ≡ true → named r ≡ true → named (by_table t r) ≡ true
  unfolding named by_table all
  table_named [] r h n = n
  table_named (e ∷ es) r h n = go e.1 (and_left (tellable e.0) _ h) (table_named es r (and_right (tellable e.0) _ h) n)
    where
      go : (b : Bool) → tellable e.0 ≡ true → named (by_table es r) ≡ true → named (Err e.0 if b else by_table es r) ≡ true
      go true z q = z
      go false z q = q

  pub given_named : (a : A) → named (Ok a) ≡ true
  unfolding named
  given_named a = refl

  -- two tables in a row
  then_named : (x : Says (Unit {0})) (r : Says A) → named x ≡ true → named r ≡ true → named (and_then x r) ≡ true
  unfolding named
  then_named (Err k) r h n = h
  then_named (Ok u) r h n = n

  pub both_named : (t u : Table) (r : Says A) → named (by_table t (Ok (tt {0}))) ≡ true → named (by_table u r) ≡ true → named (by_table (t ++ u) r) ≡ true
  both_named t u r h n = ap named (table_after t u r) ∙ then_named (by_table t (Ok (tt {0}))) (by_table u r) h n

module _ (w : List ℕ) where
  -- what is wrong with an image
  pub image_named : named (image_says w) ≡ true
  unfolding named
  image_named = go (image_says w) refl
    where
      go : (x : Says (Unit {0})) → image_says w ≡ x → named x ≡ true
      go (Err k) e = let f = fault_word w k e in both (lt-ltb 0 (code_of k) (omega (arith, f.0))) (both (lt-ltb (code_of k) 256 (omega (arith, f.1))) (lt-ltb (word_shown k) 65536 f.2))
      go (Ok u) e = refl

  -- a table that begins with an image's rows
  pub after_image : {A : Type 0} (t : Table) (r : Says A) → named (by_table t r) ≡ true → named (by_table (image_rows w ++ t) r) ≡ true
  unfolding image_says
  after_image t r n = both_named (image_rows w) t r image_named n

  -- one without any other
  image_alone : {A : Type 0} (a : A) → named (by_table (image_rows w) (Ok a)) ≡ true
  unfolding by_table named
  image_alone a = ap (λ (l : Table). named (by_table l (Ok a))) (sym (append-nil (image_rows w))) ∙ after_image [] (Ok a) refl

module _ (w : List ℕ) (a : ℕ) where
  count_rows : {A : Type 0} (r : Says A) → named r ≡ true → named (by_table (count_order w) r) ≡ true
  unfolding all
  count_rows r n = after_image w (due_rows w) r (table_named (due_rows w) r refl n)

  pub count_named : named (count_says w) ≡ true
  unfolding count_says
  count_named = count_rows (Ok (outcomes (state_of w))) (given_named (outcomes (state_of w)))

  pub rank_named : (l : List ℕ) → named (rank_says w l) ≡ true
  unfolding rank_says all
  rank_named l =
      both_named (count_order w) (rank_rows w l) _ (count_rows (Ok (tt {0})) (given_named (tt {0}))) (table_named (rank_rows w l) _ refl (given_named (rank_of (state_of w) l)))

  pub draw_named : (room list : ℕ) → named (draw_says w a room list) ≡ true
  unfolding draw_says all
  draw_named room list =
      both_named (count_order w) (draw_rows w a room list) _ (count_rows (Ok (tt {0})) (given_named (tt {0}))) (table_named (draw_rows w a room list) _ refl (given_named _))

  pub observe_named : (room : ℕ) → named (observe_says w a room) ≡ true
  unfolding observe_says all
  observe_named room = after_image w _ _ (table_named _ _ refl (given_named (view (state_of w) a)))

  pub actor_named : named (actor_says w) ≡ true
  unfolding actor_says
  actor_named = image_alone w (chance_acts (state_of w))

  pub key_named : named (key_says w) ≡ true
  unfolding key_says
  key_named = image_alone w (length_key (state_of w))

  pub legal_named : named (legal_says w a) ≡ true
  unfolding legal_says all
  legal_named = after_image w _ _ (table_named _ _ refl (given_named (legal_for (state_of w) a)))

  pub truncation_named : (e : Event) → named (truncation_says w a e) ≡ true
  unfolding truncation_says all
  truncation_named e = after_image w _ _ (table_named _ _ refl (given_named (truncated e (snake_of (state_of w) a).alive)))

module _ (s : Setting) where
  pub setting_rows : {A : Type 0} (r : Says A) → named r ≡ true → named (by_table (setting_order s) r) ≡ true
  unfolding all
  setting_rows r n = table_named (setting_order s) r refl n

  pub setting_named : named (setting_says s) ≡ true
  unfolding setting_says
  setting_named = setting_rows (Ok (tt {0})) (given_named (tt {0}))

  pub initial_named : (room : ℕ) → named (initial_says s room) ≡ true
  unfolding initial_says all
  initial_named room = table_named (initial_order s room) _ refl (given_named (initial_state s))

  -- the setting's rows, the image's, and those after them
  asked_named : {A : Type 0} (w acts : List ℕ) (r : Says A) → named r ≡ true → named (by_table (asked_order s w acts) r) ≡ true
  unfolding all
  asked_named w acts r n =
      both_named (setting_order s) (image_rows w ++ asked_rows s w acts) r (setting_rows (Ok (tt {0})) (given_named (tt {0})))
      (after_image w (asked_rows s w acts) r (table_named (asked_rows s w acts) r refl n))

  pub step_named : (w acts : List ℕ) (room : ℕ) → named (step_says s w acts room) ≡ true
  unfolding step_says all
  step_named w acts room = both_named (asked_order s w acts) _ _ (asked_named w acts (Ok (tt {0})) (given_named (tt {0}))) (table_named _ _ refl (given_named (stepped s (state_of w) acts)))

  pub struck_named : (w acts : List ℕ) → named (struck_says s w acts) ≡ true
  unfolding struck_says
  struck_named w acts = asked_named w acts _ (given_named (hits_in (state_of w) acts))

pub reward_named : (w : Weights) (e : Event) → named (reward_says w e) ≡ true
unfolding reward_says all
reward_named w e = table_named (reward_order w) _ refl (given_named (reward_of w e))

pub outcome_named : (c : ℕ) (u : Float) → named (outcome_says c u) ≡ true
unfolding outcome_says all
outcome_named c u = table_named (outcome_order c u) _ refl (given_named (outcome_of c u))

pub space_named : (g : ℤ) → named (space_says g) ≡ true
unfolding space_says all
space_named g = table_named (space_order g) _ refl (given_named (box 5 (side_of g) (side_of g) (lit false) (lit true)))

-- ---- reading back

-- a refusal's number and word, or what g reads in the lent array
unfoldable pub read_as : {A B : Type 0} → (List B → A) → ℕ → List B → Says A
read_as g r new = Ok (g new) if eqb r 0 else Err (refusal_in r)

-- both are told by one number
module _ (k : Refusal) (h : tellable k ≡ true) where
  number_some : 0 < code_of k
  number_some = ltb-true 0 (code_of k) (and_left _ _ h)

  word_few : word_shown k < 65536
  word_few = ltb-true (word_shown k) 65536 (and_right (ltb (code_of k) 256) _ (and_right (ltb 0 (code_of k)) _ h))

  told_some : eqb (refusal_number k) 0 ≡ false
  told_some = ne_eqb (refusal_number k) 0 (λ e. omega (arith, number_some))

module _ {A B : Type 0} (f : A → List B) (g : List B → A) (back : (a : A) → g (f a) ≡ a) (old new : List B) (r : ℕ) where
  pub read_back : (x : Says A) → named x ≡ true → Tells f x old new r → read_as g r new ≡ x
  unfolding named read_as
  read_back (Err k) h t = rw (t.refusal, told_some k h) (ap Err (refusal_back k (word_few k h)))
  read_back (Ok a) h t = rw t.refusal (ap Ok (ap g t.answer ∙ back a))

-- what each array is read by: a number, a flag, a key, an event, a sum
pub number_back : (n : ℕ) → get_or (one n) 0 0 ≡ n
number_back n = refl

pub sum_back : (x : Float) → get_or (one x) 0 nan ≡ x
sum_back x = refl

pub bit_back : (b : Bool) → flag_in (get_or (bit_number b) 0 0) ≡ b
bit_back b = flag_back b

abbrev key_in : List ℕ → Option ℕ
key_in l = Some (get_or l 1 0) if flag_in (get_or l 0 0) else None

pub key_back : (k : Option ℕ) → key_in (key_numbers k) ≡ k
key_back None = refl
key_back (Some n) = refl

-- the actions below a number: of 3 all, of 0 none, which is what a snake may do
actions_in_lem : (b : Bool) → let l : List ℕ = (0 ∷ 1 ∷ 2 ∷ []) if b else [] in each_below (length l) (λ i. i) ≡ l
unfolding each_below
actions_in_lem true = refl
actions_in_lem false = refl

pub actions_back : (s : State) (a : ℕ) → each_below (get_or (action_numbers (legal_for s a)) 0 0) (λ i. i) ≡ legal_for s a
actions_back s a = actions_in_lem ((snake_of s a).alive && not (chance_acts s))

abbrev shape_in : List ℕ → List Float → Shape
shape_in l b = discrete (get_or l 1 0) if flag_in (get_or l 0 0) else box (get_or l 2 0) (get_or l 3 0) (get_or l 4 0) (get_or b 0 nan) (get_or b 1 nan)

pub shape_back : (s : Shape) → shape_in (shape_numbers s) (shape_bounds s) ≡ s
shape_back (box p h w l t) = refl
shape_back (discrete n) = refl

-- as many words as the count says, of a buffer that an answer wrote: the answer
front_is : {B : Type 0} (s d : List B) → take (length s) (over_front s d) ≡ s
unfolding over_front
front_is s d = take-append_seam s (drop (length s) d)

pub words_back : {A B : Type 0} (f : A → List B) (a : A) (old new : List B) (count now : List ℕ) (r : ℕ) → Writes f (Ok a) old new count now r → take (get_or now 0 0) new ≡ f a
words_back f a old new count now r t = rw (t.count, t.words) (front_is (f a) old)

-- a step's image, end and events
eight_back : (es : List Event) → each_below 8 (λ i. event_in (get_or (events_bytes es) i [])) ≡ each_below 8 (λ i. get_or es i blank)
unfolding each_below events_bytes
eight_back es = simp event_back

-- eight hits: 8 and 0 say nobody, so that a hit of these two is no hit that could be said
abbrev hit_in : List ℕ → Option Hit
hit_in l = None if eqb (get_or l 0 0) 8 && eqb (get_or l 1 0) 0 else Some (record { snake = get_or l 0 0; position = get_or l 1 0 })

abbrev pub sayable : Option Hit → Bool
sayable None = true
sayable (Some h) = not (eqb h.snake 8 && eqb h.position 0)

hit_back : (h : Option Hit) → sayable h ≡ true → hit_in (hit_words h) ≡ h
hit_back None p = refl
hit_back (Some h) p = rw (not-true (eqb h.snake 8 && eqb h.position 0) p)

pub hits_back : (hs : List (Option Hit)) → ((i : ℕ) → i < 8 → sayable (get_or hs i unhit) ≡ true)
    → each_below 8 (λ i. hit_in (get_or (hits_words hs) i [])) ≡ each_below 8 (λ i. get_or hs i unhit)
unfolding each_below hits_words
hits_back hs h =
    let b : (i : ℕ) → i < 8 → hit_in (hit_words (get_or hs i unhit)) ≡ get_or hs i unhit = λ i l. hit_back (get_or hs i unhit) (h i l) in
    rw (b 0 (omega arith), b 1 (omega arith), b 2 (omega arith), b 3 (omega arith), b 4 (omega arith), b 5 (omega arith), b 6 (omega arith), b 7 (omega arith))

module _ (o : Transition) (old new : List ℕ) (events tells : List (List ℕ)) (end now : List ℕ) (r : ℕ) (t : FlatSteps (Ok o) old new events tells end now r) where
  pub next_back : take (get_or now 0 0) new ≡ image_of o.next
  next_back = rw (t.end, t.words) (front_is (image_of o.next) old)

  pub terminal_back : flag_in (get_or now 1 0) ≡ o.terminal
  terminal_back = rw t.end (flag_back o.terminal)

  pub events_back : each_below 8 (λ i. event_in (get_or tells i [])) ≡ each_below 8 (λ i. get_or (eight o.events) i blank)
  events_back = rw t.events (eight_back (eight o.events))

-- a draw's image and list
module _ (d : Draw) (old new list after counts now : List ℕ) (r : ℕ) (t : FlatDraws (Ok d) old new list after counts now r) where
  pub after_back : take (get_or now 0 0) new ≡ image_of d.next
  after_back = rw (t.counts, t.words) (front_is (image_of d.next) old)

  pub cells_back : take (get_or now 1 0) after ≡ d.cells
  cells_back = rw (t.counts, t.list) (front_is d.cells list)

-- ---- two answers that meet one promise

pub one_answer : {A B : Type 0} (f : A → List B) (x : Says A) (old new new' : List B) (r r' : ℕ) → Tells f x old new r → Tells f x old new' r' → (r ≡ r') × (new ≡ new')
one_answer f x old new new' r r' p p' = (p.refusal ∙ sym p'.refusal, p.answer ∙ sym p'.answer)

pub one_writing : {A B : Type 0} (f : A → List B) (x : Says A) (old new new' : List B) (count now now' : List ℕ) (r r' : ℕ) → Writes f x old new count now r → Writes f x old new' count now' r'
    → (r ≡ r') × (new ≡ new') × (now ≡ now')
one_writing f x old new new' count now now' r r' p p' = (p.refusal ∙ sym p'.refusal, p.words ∙ sym p'.words, p.count ∙ sym p'.count)

pub one_space : (x : Says Shape) (old new new' : List ℕ) (bounds now now' : List Float) (r r' : ℕ) → FlatSpace x old new bounds now r → FlatSpace x old new' bounds now' r'
    → (r ≡ r') × (new ≡ new') × (now ≡ now')
one_space x old new new' bounds now now' r r' p p' = (p.refusal ∙ sym p'.refusal, p.sizes ∙ sym p'.sizes, p.bounds ∙ sym p'.bounds)

pub one_step : (x : Says Transition) (old new new' : List ℕ) (events tells tells' : List (List ℕ)) (end now now' : List ℕ) (r r' : ℕ) → FlatSteps x old new events tells end now r
    → FlatSteps x old new' events tells' end now' r' → (r ≡ r') × (new ≡ new') × (tells ≡ tells') × (now ≡ now')
one_step x old new new' events tells tells' end now now' r r' p p' =
    (p.refusal ∙ sym p'.refusal, p.words ∙ sym p'.words, p.events ∙ sym p'.events, p.end ∙ sym p'.end)

pub one_draw : (x : Says Draw) (old new new' list after after' counts now now' : List ℕ) (r r' : ℕ) → FlatDraws x old new list after counts now r → FlatDraws x old new' list after' counts now' r'
    → (r ≡ r') × (new ≡ new') × (after ≡ after') × (now ≡ now')
one_draw x old new new' list after after' counts now now' r r' p p' =
    (p.refusal ∙ sym p'.refusal, p.words ∙ sym p'.words, p.list ∙ sym p'.list, p.counts ∙ sym p'.counts)

pub one_body : (w : List ℕ) (i : ℕ) (part part' : List ℕ) (r r' : ℕ) → FlatBody w i part r → FlatBody w i part' r' → (r ≡ r') × (part ≡ part')
one_body w i part part' r r' p p' = (p.refusal ∙ sym p'.refusal, p.start_len ∙ sym p'.start_len)
