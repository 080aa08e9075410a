-- Demand 2 of each call: where no row of its table holds, it answers what its definition says. Assumes nothing.
use Rattle.std.specs.Prelude.{Option, Ok, Err}
use Prim.Native.Nat.{ℕ}
use mathlib.Core.Path.{◌≡◌, sym, ap, ◌∙◌}
use mathlib.Core.Bool.{Bool, true, false}
use mathlib.Core.List.{List, [], ◌∷◌}
use native.Mathlib.Omega.{arith}
use lib.IntN.{ℤ}
use lib.Ieee.{Float}
use lib.ListN.{length, take, replicate}
use Rattle.lists.proofs.Insert.{over_take}
use Rattle.rules.specs.Headings.{turned}
use Rattle.rules.specs.Events.{blank, eight}
use Rattle.rules.specs.State.{State, snake_of}
use Rattle.rules.specs.Image.{image_of, state_of, well_formed}
use Rattle.rules.specs.Setting.{side_of, setting_order, setting_check, initial_state}
use Rattle.rules.specs.Step.{Transition, stepped}
use Rattle.rules.specs.Chance.{outcomes, drawn, after_draw, rank_of}
use Rattle.rules.specs.View.{view, lit}
use Rattle.rules.specs.LengthKey.{length_key}
use Rattle.rules.specs.Turns.{chance_acts, legal_for, truncated}
use Rattle.rules.specs.Reward.{reward_of}
use Rattle.rules.specs.Says.{shape_of, discrete, Says, by_table, box, seen, beside, lent, chance_of, actions_of}
use Rattle.rules.specs.Calls.{stepped_of, drawn_of, setting_says, image_says, initial_says, step_says, observe_says, count_says, Draw, draw_says, rank_says, actor_says, legal_says, key_says, truncation_says, reward_says, space_says, body_asked}
use Rattle.rules.specs.Promises.{Turns, Checks, Examines, Validates, Starts, Steps, Observes, Counts, Draws, Ranks, ActsNext, Allows, Keys, Truncates, Rewards, ObservationSpace, ActionSpace, Parts}
use Rattle.rules.specs.declared.Heading.{Heading}
use Rattle.rules.specs.declared.RelativeAction.{RelativeAction}
use Rattle.rules.specs.declared.Setting.{Setting}
use Rattle.rules.specs.declared.Event.{Event}
use Rattle.rules.specs.declared.Weights.{Weights}
use Rattle.rules.specs.declared.Stepped.{Stepped}
use Rattle.rules.specs.declared.Drawn.{Drawn}
use Rattle.rules.specs.declared.Actor.{Actor}
use Rattle.rules.specs.declared.Legal.{Legal}
use Rattle.rules.specs.declared.Space.{Space}
use Rattle.rules.specs.declared.Space.TheVariants.{Box, Discrete}
use Rattle.rules.proofs.Answers.{seen_one, space_of}
use denote.Ref.{Bor}
use Rattle.image.specs.Memory.{word_place, start_asked}
use Rattle.lists.specs.Choice.{◌if◌else◌}
use Rattle.rules.specs.Refusals.{code_of}
use Rattle.rules.specs.declared.refusal.Refusal.{Refusal}
use Rattle.rules.specs.Tables.{Table, none_hold, fault}
use Rattle.rules.specs.Orders.{initial_order, step_order, observe_order, count_order, draw_order, rank_order, image_order, agent_order, reward_order, space_order}
use Rattle.rules.proofs.Tables.{table_gives}
use Rattle.theorems.specs.Answers.{StepIs, DrawIs}

module _ {A : Type 0} where
  pub lawful : (t : Table) (a : A) → none_hold t ≡ true → by_table t (Ok a) ≡ Ok a
  lawful t a h = table_gives t (Ok a) h

-- the action turns the heading
pub turn_is : (h : Heading) (a : RelativeAction) (r : Heading) → Turns h a r → r ≡ turned h a
turn_is h a r p = p.answer

-- the check answers whether the image is well-formed
pub check_is : (w : List ℕ) (r : Bool) → Checks w r → r ≡ well_formed w
check_is w r p = p.answer

-- the body query hands back the body, or the empty part
pub body_is : (w : List ℕ) (i : ℕ) (r : List ℕ) → Parts w i r → r ≡ body_asked w i
body_is w i r p = p.answer

-- an image without a fault is accepted
pub examine_is : (w : List ℕ) (r : Says (Unit {0})) → Examines w r → none_hold (image_order w) ≡ true → r ≡ Ok tt
unfolding image_says
examine_is w r p h = (p.answer ∙ lawful (image_order w) tt h)

-- a setting without a fault is accepted
pub validate_is : (s : Setting) (r : Says (Unit {0})) → Validates s r → none_hold (setting_order s) ≡ true → r ≡ Ok tt
unfolding setting_says
validate_is s r p h = (p.answer ∙ lawful (setting_order s) tt h)

-- and where it refuses, its number is the one of which document 01's examples speak
fault_is : (t : Table) (k : Refusal) → by_table t (Ok (tt {0})) ≡ Err k → fault t ≡ code_of k
unfolding by_table fault
fault_is [] k e = let z : ◌≡◌ {A = ℕ} 0 1 = cc in absurd (omega arith)
fault_is (x ∷ xs) k e = go x.0 x.1 (fault_is xs k) e
  where
    go : (n : Refusal) (c : Bool) → (by_table xs (Ok (tt {0})) ≡ Err k → fault xs ≡ code_of k) → (Err n if c else by_table xs (Ok (tt {0}))) ≡ Err k
        → (code_of n if c else fault xs) ≡ code_of k
    go n true later q = let same : n ≡ k = cc in ap code_of same
    go n false later q = later q

pub validate_number : (s : Setting) (k : Refusal) → Validates s (Err k) → setting_check s ≡ code_of k
unfolding setting_says setting_check
validate_number s k p = fault_is (setting_order s) k (sym p.answer)

-- the words written are the image of the initial state
pub initial_is : (s : Setting) (old new : List ℕ) (r : Says ℕ) → Starts s old new r → none_hold (initial_order s (length old)) ≡ true
    → (r ≡ Ok (length (image_of (initial_state s)))) × (take (length (image_of (initial_state s))) new ≡ image_of (initial_state s))
unfolding initial_says
initial_is s old new r p h =
    let e = lawful (initial_order s (length old)) (initial_state s) h in
    let t = image_of (initial_state s) in (
      (p.answer ∙ ap (seen (λ (t : State). length (image_of t))) e),
      ap (take (length t)) (p.words ∙ ap (lent image_of old) e) ∙ over_take t old,
    )

pub step_is : (s : Setting) (w acts old new : List ℕ) (r : Says Stepped) → Steps s w acts old new r → none_hold (step_order s w acts (length old)) ≡ true
    → StepIs (stepped s (state_of w) acts) new r
unfolding step_says
step_is s w acts old new r p h =
    let o = stepped s (state_of w) acts in
    let e = lawful (step_order s w acts (length old)) o h in
    let t = image_of o.next in
    record {
      answer = p.answer ∙ ap (seen stepped_of) e;
      image = ap (take (length t)) (p.words ∙ ap (lent (λ (o : Transition). image_of o.next) old) e) ∙ over_take t old;
    }

-- the numbers written are the agent's view
pub observe_is : (w : List ℕ) (a : ℕ) (old new : List Float) (r : Says ℕ) → Observes w a old new r → none_hold (observe_order w a (length old)) ≡ true
    → (r ≡ Ok (length (view (state_of w) a))) × (take (length (view (state_of w) a)) new ≡ view (state_of w) a)
unfolding observe_says
observe_is w a old new r p h =
    let e = lawful (observe_order w a (length old)) (view (state_of w) a) h in
    let v = view (state_of w) a in (
      (p.answer ∙ ap (seen (λ (v : List Float). length v)) e),
      ap (take (length v)) (p.numbers ∙ ap (lent (λ (v : List Float). v) old) e) ∙ over_take v old,
    )

pub count_is : (w : List ℕ) (r : Says ℕ) → Counts w r → none_hold (count_order w) ≡ true → r ≡ Ok (outcomes (state_of w))
unfolding count_says
count_is w r p h = (p.answer ∙ lawful (count_order w) (outcomes (state_of w)) h)

pub draw_is : (w : List ℕ) (i : ℕ) (old new list cells : List ℕ) (r : Says Drawn) → Draws w i old new list cells r
    → none_hold (draw_order w i (length old) (length list)) ≡ true → DrawIs (state_of w) i new cells r
unfolding draw_says
draw_is w i old new list cells r p h =
    let d : Draw = record { next = after_draw (state_of w) i; cells = drawn (state_of w) i } in
    let e = lawful (draw_order w i (length old) (length list)) d h in
    let t = image_of (after_draw (state_of w) i) in
    let l = drawn (state_of w) i in
    record {
      answer = p.answer ∙ ap (seen drawn_of) e;
      image = ap (take (length t)) (p.words ∙ ap (lent (λ (d : Draw). image_of d.next) old) e) ∙ over_take t old;
      list = ap (take (length l)) (p.list ∙ ap (lent (λ (d : Draw). d.cells) list) e) ∙ over_take l list;
    }

pub rank_is : (w l : List ℕ) (r : Says ℕ) → Ranks w l r → none_hold (rank_order w l) ≡ true → r ≡ Ok (rank_of (state_of w) l)
unfolding rank_says
rank_is w l r p h = (p.answer ∙ lawful (rank_order w l) (rank_of (state_of w) l) h)

-- whether chance acts
pub actor_is : (w : List ℕ) (r : Says Actor) → ActsNext w r → none_hold (image_order w) ≡ true → seen chance_of r ≡ Ok (chance_acts (state_of w))
unfolding actor_says
actor_is w r p h = p.answer ∙ lawful (image_order w) (chance_acts (state_of w)) h

-- the legal actions as a list
pub legal_is : (w : List ℕ) (a : ℕ) (r : Says Legal) → Allows w a r → none_hold (agent_order w a) ≡ true → seen actions_of r ≡ Ok (legal_for (state_of w) a)
unfolding legal_says
legal_is w a r p h = p.answer ∙ lawful (agent_order w a) (legal_for (state_of w) a) h

-- the length cell, or none
pub key_is : (w : List ℕ) (r : Says (Option ℕ)) → Keys w r → none_hold (image_order w) ≡ true → r ≡ Ok (length_key (state_of w))
unfolding key_says
key_is w r p h = p.answer ∙ lawful (image_order w) (length_key (state_of w)) h

-- the event with its survival flag set
pub truncation_is : (w : List ℕ) (a : ℕ) (e : Event) (r : Says Event) → Truncates w a e r → none_hold (agent_order w a) ≡ true
    → r ≡ Ok (truncated e (snake_of (state_of w) a).alive)
unfolding truncation_says
truncation_is w a e r p h = (p.answer ∙ lawful (agent_order w a) (truncated e (snake_of (state_of w) a).alive) h)

pub reward_is : (w : Weights) (e : Event) (r : Says Float) → Rewards w e r → none_hold (reward_order w) ≡ true → r ≡ Ok (reward_of w e)
unfolding reward_says
reward_is w e r p h = (p.answer ∙ lawful (reward_order w) (reward_of w e) h)

-- five planes of the grid's side, from 0.0 to 1.0
pub space_is : (g : ℤ) (r : Says Space) → ObservationSpace g r → none_hold (space_order g) ≡ true → r ≡ Ok (Box 5 (side_of g) (side_of g) (lit false) (lit true))
unfolding space_says
space_is g r p h = seen_one shape_of space_of r (Ok (Box 5 (side_of g) (side_of g) (lit false) (lit true))) (p.answer ∙ lawful (space_order g) (box 5 (side_of g) (side_of g) (lit false) (lit true)) h)

-- three actions
pub action_space_is : (r : Space) → ActionSpace r → r ≡ Discrete 3
action_space_is r p = let e : shape_of r ≡ discrete 3 = let h = p.answer in cc in space_of r (Discrete 3) e

-- ---- two answers of the body query are one

-- two returned parts that meet both clauses of `image::body` have equal words at one address; image is the lent slice
pub one_part : (image r q : Bor (List ℕ)) (i : ℕ) → Parts image.now i r.now → Parts image.now i q.now
    → r.ref_ptr ≡ word_place image (start_asked image.now i) → q.ref_ptr ≡ word_place image (start_asked image.now i) → (r.now ≡ q.now) × (r.ref_ptr ≡ q.ref_ptr)
one_part image r q i a b x y = (a.answer ∙ sym b.answer, x ∙ sym y)
