-- Demand 1 of each call: an answer, or exactly the table's number in the table's order; a refusal leaves every lent word, and an answer
-- the words after those that it wrote. A call is spoken of by its promise, which its code is proved to meet. Assumes nothing.
use Rattle.std.specs.Prelude.{Option, Ok, Err}
use Prim.Native.Nat.{ℕ}
use native.Mathlib.Omega.{arith}
use mathlib.Core.Path.{◌≡◌, refl, sym, ap, ◌∙◌}
use mathlib.Core.Bool.{Bool, true, false}
use mathlib.Core.List.{List, [], ◌∷◌, ◌++◌, map}
use lib.IntN.{ℤ}
use lib.Ieee.{Float}
use lib.ListN.{length, drop}
use lib.Seq.{drop-append_seam}
use Rattle.lists.specs.Lists.{over_front}
use Rattle.rules.specs.Tables.{Table}
use Rattle.rules.specs.State.{snake_of}
use Rattle.rules.specs.Image.{image_of, state_of}
use Rattle.rules.specs.Setting.{side_of, setting_order, chain_order, initial_state}
use Rattle.rules.specs.Step.{Transition, stepped}
use Rattle.rules.specs.Struck.{hits_in}
use Rattle.rules.specs.Chance.{outcomes, drawn, after_draw, rank_of}
use Rattle.rules.specs.View.{view, lit}
use Rattle.rules.specs.LengthKey.{length_key}
use Rattle.rules.specs.Turns.{chance_acts, legal_for, truncated}
use Rattle.rules.specs.Reward.{reward_of}
use Rattle.rules.specs.Says.{Says, by_table, seen, beside, lent, chance_of, actions_of, box, shape_of}
use Rattle.rules.specs.Calls.{stepped_of, drawn_of, setting_says, image_says, initial_says, step_says, struck_says, observe_says, count_says, Draw, draw_says, rank_says, actor_says, legal_says, key_says, truncation_says, reward_says, space_says}
use Rattle.rules.specs.Promises.{Examines, Validates, Starts, Steps, Strikes, Observes, Counts, Draws, Ranks, ActsNext, Allows, Keys, Truncates, Rewards, ObservationSpace}
use Rattle.rules.specs.declared.Setting.{Setting}
use Rattle.rules.specs.declared.Event.{Event}
use Rattle.rules.specs.declared.Weights.{Weights}
use Rattle.rules.specs.declared.refusal.Refusal.{Refusal}
use Rattle.rules.specs.declared.Stepped.{Stepped}
use Rattle.rules.specs.declared.Hit.{Hit}
use Rattle.rules.specs.declared.Drawn.{Drawn}
use Rattle.rules.specs.declared.Actor.{Actor}
use Rattle.rules.specs.declared.Legal.{Legal}
use Rattle.rules.specs.declared.Space.{Space}
use Rattle.rules.specs.Faults.{image_rows}
use Rattle.rules.specs.Orders.{initial_order, step_order, struck_order, observe_order, count_order, draw_order, rank_order, image_order, agent_order, reward_order, space_order}
use Rattle.rules.proofs.Tables.{table_refuses, table_first, table_seen}
use Rattle.theorems.specs.Answers.{RefusedBy}
use Rattle.rules.specs.Refusals.{code_of}

-- document 01's 'Order' with document 02's group in 20's place, and that each table has those numbers
abbrev pub numbers : Table → List ℕ
numbers t = map (λ (e : Refusal × Bool). code_of e.0) t

abbrev pub setting_numbers : List ℕ
setting_numbers = 1 ∷ 2 ∷ 3 ∷ 4 ∷ 5 ∷ 6 ∷ 8 ∷ 9 ∷ 10 ∷ 11 ∷ 12 ∷ []

-- 'in place of 20, tested in this order' (02, wish 4)
abbrev pub image_numbers : List ℕ
image_numbers = 50 ∷ 51 ∷ 52 ∷ 53 ∷ 54 ∷ 55 ∷ 56 ∷ []

pub setting_order_lem : (s : Setting) → numbers (setting_order s) ≡ setting_numbers
setting_order_lem s = refl

-- 01's own, with the 7 that is never given
pub chain_order_lem : (s : Setting) → numbers (chain_order s) ≡ 1 ∷ 2 ∷ 3 ∷ 4 ∷ 5 ∷ 6 ∷ 7 ∷ 8 ∷ 9 ∷ 10 ∷ 11 ∷ 12 ∷ []
chain_order_lem s = refl

pub initial_order_lem : (s : Setting) (room : ℕ) → numbers (initial_order s room) ≡ setting_numbers ++ (29 ∷ [])
initial_order_lem s room = refl

pub step_order_lem : (s : Setting) (w acts : List ℕ) (room : ℕ) → numbers (step_order s w acts room) ≡ setting_numbers ++ (image_numbers ++ (21 ∷ 22 ∷ 24 ∷ 25 ∷ 29 ∷ []))
unfolding image_rows
step_order_lem s w acts room = refl

pub struck_order_lem : (s : Setting) (w acts : List ℕ) → numbers (struck_order s w acts) ≡ setting_numbers ++ (image_numbers ++ (21 ∷ 22 ∷ 24 ∷ 25 ∷ []))
unfolding image_rows
struck_order_lem s w acts = refl

pub observe_order_lem : (w : List ℕ) (a room : ℕ) → numbers (observe_order w a room) ≡ image_numbers ++ (26 ∷ 29 ∷ [])
unfolding image_rows
observe_order_lem w a room = refl

pub count_order_lem : (w : List ℕ) → numbers (count_order w) ≡ image_numbers ++ (23 ∷ 28 ∷ [])
unfolding image_rows
count_order_lem w = refl

pub draw_order_lem : (w : List ℕ) (i room list_room : ℕ) → numbers (draw_order w i room list_room) ≡ image_numbers ++ (23 ∷ 28 ∷ 27 ∷ 29 ∷ [])
unfolding image_rows
draw_order_lem w i room list_room = refl

pub rank_order_lem : (w l : List ℕ) → numbers (rank_order w l) ≡ image_numbers ++ (23 ∷ 28 ∷ 30 ∷ [])
unfolding image_rows
rank_order_lem w l = refl

-- of the check of an image, the actor and the length cell
pub image_order_lem : (w : List ℕ) → numbers (image_order w) ≡ image_numbers
unfolding image_rows
image_order_lem w = refl

-- of the legal actions and truncation
pub agent_order_lem : (w : List ℕ) (a : ℕ) → numbers (agent_order w a) ≡ image_numbers ++ (26 ∷ [])
unfolding image_rows
agent_order_lem w a = refl

pub reward_order_lem : (w : Weights) → numbers (reward_order w) ≡ 31 ∷ []
reward_order_lem w = refl

pub space_order_lem : (g : ℤ) → numbers (space_order g) ≡ 5 ∷ []
space_order_lem g = refl

-- ---- for each call that refuses: refused by k if and only if k is the number of its table's first row that holds

-- of an answer that is what its table says
pub by_rows : {A : Type 0} (t : Table) (a : A) (r : Says A) → r ≡ by_table t (Ok a) → RefusedBy Err t r
by_rows t a r e = record { number = λ k h. table_refuses t a k (sym e ∙ h); refused = λ k h. e ∙ table_first t (Ok a) k h }

-- of one that is that seen through f
pub by_seen : {A B : Type 0} (f : A → B) (t : Table) (a : A) (r : Says B) → r ≡ seen f (by_table t (Ok a)) → RefusedBy Err t r
by_seen f t a r e = by_rows t (f a) r (e ∙ table_seen f t a)

-- and of one that is that where it is seen through f
view_refuses : {A B : Type 0} (f : A → B) (r : Says A) (k : Refusal) → seen f r ≡ Err k → r ≡ Err k
view_refuses f (Err m) k h = let e : m ≡ k = cc in ap Err e
view_refuses f (Ok a) k h = let z : ◌≡◌ {A = ℕ} 0 1 = cc in absurd (omega arith)

pub by_view : {A B : Type 0} (f : A → B) (t : Table) (b : B) (r : Says A) → seen f r ≡ by_table t (Ok b) → RefusedBy Err t r
by_view f t b r e = record { number = λ k h. table_refuses t b k (sym e ∙ ap (seen f) h); refused = λ k h. view_refuses f r k (e ∙ table_first t (Ok b) k h) }

pub validate_refused : (s : Setting) (r : Says (Unit {0})) → Validates s r → RefusedBy Err (setting_order s) r
unfolding setting_says
validate_refused s r p = by_rows (setting_order s) tt r p.answer

pub examine_refused : (w : List ℕ) (r : Says (Unit {0})) → Examines w r → RefusedBy Err (image_order w) r
unfolding image_says
examine_refused w r p = by_rows (image_order w) tt r p.answer

pub initial_refused : (s : Setting) (old new : List ℕ) (r : Says ℕ) → Starts s old new r → RefusedBy Err (initial_order s (length old)) r
unfolding initial_says
initial_refused s old new r p = by_seen _ (initial_order s (length old)) (initial_state s) r p.answer

pub step_refused : (s : Setting) (w acts old new : List ℕ) (r : Says Stepped) → Steps s w acts old new r → RefusedBy Err (step_order s w acts (length old)) r
unfolding step_says
step_refused s w acts old new r p = by_seen stepped_of (step_order s w acts (length old)) (stepped s (state_of w) acts) r p.answer

pub struck_refused : (s : Setting) (w acts : List ℕ) (r : Says (List (Option Hit))) → Strikes s w acts r → RefusedBy Err (struck_order s w acts) r
unfolding struck_says
struck_refused s w acts r p = by_rows (struck_order s w acts) (hits_in (state_of w) acts) r p.answer

pub observe_refused : (w : List ℕ) (a : ℕ) (old new : List Float) (r : Says ℕ) → Observes w a old new r → RefusedBy Err (observe_order w a (length old)) r
unfolding observe_says
observe_refused w a old new r p = by_seen _ (observe_order w a (length old)) (view (state_of w) a) r p.answer

pub count_refused : (w : List ℕ) (r : Says ℕ) → Counts w r → RefusedBy Err (count_order w) r
unfolding count_says
count_refused w r p = by_rows (count_order w) (outcomes (state_of w)) r p.answer

pub draw_refused : (w : List ℕ) (i : ℕ) (old new list cells : List ℕ) (r : Says Drawn) → Draws w i old new list cells r
    → RefusedBy Err (draw_order w i (length old) (length list)) r
unfolding draw_says
draw_refused w i old new list cells r p =
    by_seen drawn_of (draw_order w i (length old) (length list)) (record { next = after_draw (state_of w) i; cells = drawn (state_of w) i }) r p.answer

pub rank_refused : (w l : List ℕ) (r : Says ℕ) → Ranks w l r → RefusedBy Err (rank_order w l) r
unfolding rank_says
rank_refused w l r p = by_rows (rank_order w l) (rank_of (state_of w) l) r p.answer

pub actor_refused : (w : List ℕ) (r : Says Actor) → ActsNext w r → RefusedBy Err (image_order w) r
unfolding actor_says
actor_refused w r p = by_view chance_of (image_order w) (chance_acts (state_of w)) r p.answer

pub legal_refused : (w : List ℕ) (a : ℕ) (r : Says Legal) → Allows w a r → RefusedBy Err (agent_order w a) r
unfolding legal_says
legal_refused w a r p = by_view actions_of (agent_order w a) (legal_for (state_of w) a) r p.answer

pub key_refused : (w : List ℕ) (r : Says (Option ℕ)) → Keys w r → RefusedBy Err (image_order w) r
unfolding key_says
key_refused w r p = by_rows (image_order w) (length_key (state_of w)) r p.answer

pub truncation_refused : (w : List ℕ) (a : ℕ) (v : Event) (r : Says Event) → Truncates w a v r → RefusedBy Err (agent_order w a) r
unfolding truncation_says
truncation_refused w a v r p = by_rows (agent_order w a) (truncated v (snake_of (state_of w) a).alive) r p.answer

pub reward_refused : (w : Weights) (v : Event) (r : Says Float) → Rewards w v r → RefusedBy Err (reward_order w) r
unfolding reward_says
reward_refused w v r p = by_rows (reward_order w) (reward_of w v) r p.answer

pub space_refused : (g : ℤ) (r : Says Space) → ObservationSpace g r → RefusedBy Err (space_order g) r
unfolding space_says
space_refused g r p = by_view shape_of (space_order g) (box 5 (side_of g) (side_of g) (lit false) (lit true)) r p.answer

-- ---- a refusal leaves every lent word

module _ {A B C : Type 0} (f : A → B) (g : A → List C) (old : List C) where
  pub kept : (x : Says A) (k : Refusal) → seen f x ≡ Err k → lent g old x ≡ old
  kept (Err n) k h = refl
  kept (Ok a) k h = let z : ◌≡◌ {A = ℕ} 0 1 = cc in absurd (omega arith)

module _ (k : Refusal) where
  pub initial_untouched : (s : Setting) (old new : List ℕ) (r : Says ℕ) → Starts s old new r → r ≡ Err k → new ≡ old
  initial_untouched s old new r p e = p.words ∙ kept _ image_of old (initial_says s (length old)) k (sym p.answer ∙ e)

  pub step_untouched : (s : Setting) (w acts old new : List ℕ) (r : Says Stepped) → Steps s w acts old new r → r ≡ Err k → new ≡ old
  step_untouched s w acts old new r p e = p.words ∙ kept _ (λ (o : Transition). image_of o.next) old (step_says s w acts (length old)) k (sym p.answer ∙ e)

  pub observe_untouched : (w : List ℕ) (a : ℕ) (old new : List Float) (r : Says ℕ) → Observes w a old new r → r ≡ Err k → new ≡ old
  observe_untouched w a old new r p e = p.numbers ∙ kept _ (λ v. v) old (observe_says w a (length old)) k (sym p.answer ∙ e)

  -- both buffers of a draw
  pub draw_untouched : (w : List ℕ) (i : ℕ) (old new list cells : List ℕ) (r : Says Drawn) → Draws w i old new list cells r → r ≡ Err k
      → (new ≡ old) × (cells ≡ list)
  draw_untouched w i old new list cells r p e =
      let x = draw_says w i (length old) (length list) in
      let h : seen drawn_of x ≡ Err k = sym p.answer ∙ e in
      (p.words ∙ kept _ (λ (d : Draw). image_of d.next) old x k h, p.list ∙ kept _ (λ (d : Draw). d.cells) list x k h)

-- ---- an answer is the count of the words that it wrote, and the words after them keep their values

module _ {A C : Type 0} (g : A → List C) (old : List C) where
  after_front : (s : List C) (n : ℕ) → length s ≡ n → drop n (over_front s old) ≡ drop n old
  unfolding over_front
  after_front s n e = rw (sym e) (drop-append_seam s (drop (length s) old))

  pub kept_after : (x : Says A) (n : ℕ) → seen (λ a. length (g a)) x ≡ Ok n → drop n (lent g old x) ≡ drop n old
  kept_after (Err k) n h = let z : ◌≡◌ {A = ℕ} 0 1 = cc in absurd (omega arith)
  kept_after (Ok a) n h = after_front (g a) n (cc)

  -- the same of an answer m that holds the count
  pub kept_by : {B : Type 0} (f : A → B) (count : B → ℕ) → ((a : A) → count (f a) ≡ length (g a)) → (x : Says A) (m : B) → seen f x ≡ Ok m
      → drop (count m) (lent g old x) ≡ drop (count m) old
  kept_by f count same (Err k) m h = let z : ◌≡◌ {A = ℕ} 0 1 = cc in absurd (omega arith)
  kept_by f count same (Ok a) m h = let e : f a ≡ m = cc in after_front (g a) (count m) (sym (same a) ∙ ap count e)

module _ (n : ℕ) where
  pub initial_after : (s : Setting) (old new : List ℕ) (r : Says ℕ) → Starts s old new r → r ≡ Ok n → drop n new ≡ drop n old
  initial_after s old new r p e = ap (drop n) p.words ∙ kept_after image_of old (initial_says s (length old)) n (sym p.answer ∙ e)

  pub observe_after : (w : List ℕ) (a : ℕ) (old new : List Float) (r : Says ℕ) → Observes w a old new r → r ≡ Ok n → drop n new ≡ drop n old
  observe_after w a old new r p e = ap (drop n) p.numbers ∙ kept_after (λ v. v) old (observe_says w a (length old)) n (sym p.answer ∙ e)

pub step_after : (s : Setting) (w acts old new : List ℕ) (m : Stepped) → Steps s w acts old new (Ok m) → drop m.words new ≡ drop m.words old
step_after s w acts old new m p =
    ap (drop m.words) p.words ∙ kept_by (λ (o : Transition). image_of o.next) old stepped_of (λ (x : Stepped). x.words) (λ o. refl) (step_says s w acts (length old)) m (sym p.answer)

pub draw_after : (w : List ℕ) (i : ℕ) (old new list cells : List ℕ) (m : Drawn) → Draws w i old new list cells (Ok m)
    → (drop m.words new ≡ drop m.words old) × (drop m.cells cells ≡ drop m.cells list)
draw_after w i old new list cells m p =
    let x = draw_says w i (length old) (length list) in (
      ap (drop m.words) p.words ∙ kept_by (λ (d : Draw). image_of d.next) old drawn_of (λ (y : Drawn). y.words) (λ d. refl) x m (sym p.answer),
      ap (drop m.cells) p.list ∙ kept_by (λ (d : Draw). d.cells) list drawn_of (λ (y : Drawn). y.cells) (λ d. refl) x m (sym p.answer),
    )
