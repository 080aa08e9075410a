-- What a step answers is well-formed again: a survivor's head is on the grid and off its own body, the dying keep a part of
-- their old body, and different cells of the grid are no more than its area. Assumes nothing.
use Rattle.std.specs.Prelude.{Option, Some, None}
use Prim.Native.Nat.{ℕ, ◌-◌, ◌*◌, ◌<◌, ◌≤◌}
use native.Mathlib.Nat.{le_trans}
use native.Mathlib.Omega.{arith}
use mathlib.Core.Path.{◌≡◌, refl, sym, ap, subst, ◌∙◌}
use mathlib.Core.Bool.{Bool, true, false, not, ◌&&◌, true≢false, false≢true}
use mathlib.Core.List.{List, ◌∷◌}
use lib.Dec.{ltb}
use lib.IntN.{pos}
use lib.ListN.{length, get_or, take}
use borrow.Author.Tests.{lt-ltb, not-true}
use Rattle.lists.specs.Choice.{◌if◌else◌}
use Rattle.lists.specs.Below.{count_below, each_below}
use Rattle.lists.specs.Lists.{all, member, distinct, ascending}
use Rattle.lists.proofs.Tests.{and_left, and_right, both}
use Rattle.lists.proofs.Below.{count_le, each_long, each_at}
use Rattle.lists.proofs.Lists.{keep_small}
use Rattle.lists.proofs.Members.{distinct_more}
use Rattle.lists.proofs.Shorter.{all_take, distinct_take, all_keep, ascending_keep}
use Rattle.lists.proofs.Pigeonhole.{cells_short}
use Rattle.rules.specs.Headings.{turned, action_of}
use Rattle.rules.specs.Grid.{inside, same, cell_of}
use Rattle.rules.specs.State.{Snake, State, nobody, count, snake_of, area}
use Rattle.rules.specs.Image.{body_of, image_of, state_of, well_formed}
use Rattle.rules.specs.Facts.{Holdable}
use Rattle.rules.specs.Events.{dies}
use Rattle.rules.specs.Step.{Moved, stays, on_food, goes, head_to, move, moved_of, another, on_body, cause_of, after, ate_now, is_terminal, transition_of, stepped}
use Rattle.rules.specs.declared.Cause.{Cause}
use Rattle.rules.specs.declared.Cause.TheVariants.{Wall, SelfBody, OppBody, HeadOn}
use Rattle.rules.specs.declared.Setting.{Setting}
use Rattle.rules.proofs.Facts.{sound}
use Rattle.rules.proofs.Holdable.{image_well_formed, holds_state}
use Rattle.rules.proofs.Grid.{cell_below}

-- different cells below m
pub record Cells (m : ℕ) (l : List ℕ) : Type 0 where
  pub apart : distinct l ≡ true
  pub below : all (λ c. ltb c m) l ≡ true

-- ---- the move leaves a part of the body

module _ (m : ℕ) (l : List ℕ) (ok : Cells m l) where
  part_cells : (k : ℕ) → Cells m (take k l)
  part_cells k = record { apart = distinct_take k l ok.apart; below = all_take (λ c. ltb c m) k l ok.below }

  kept_cells : (e : Bool) → Cells m (l if e else take (length l - 1) l)
  kept_cells true = ok
  kept_cells false = part_cells (length l - 1)

rest_by : (m : ℕ) (z : Snake) (v : Moved) (b : Bool) → Cells m v.rest → Cells m z.body → Cells m (v if b else stays z).rest
rest_by m z v true p q = p
rest_by m z v false p q = q

pub rest_cells : (g m : ℕ) (food : List ℕ) (z : Snake) (a : ℕ) → Cells m z.body → Cells m (move g food z a).rest
rest_cells g m food z a ok =
    let h = turned z.heading (action_of a) in
    let p = head_to g h (get_or z.body 0 0) in
    let e = on_food g food p in
    rest_by m z (goes z.body h p e) z.alive (kept_cells m z.body ok e) ok

-- ---- a survivor's head is on the grid and off its own body

spared : (moves heads on own opp : Bool) → moves ≡ true
    → dies (None if not moves else (Some HeadOn) if heads else (Some Wall) if not on else (Some SelfBody) if own else (Some OppBody) if opp else None) ≡ false
    → (on ≡ true) × (own ≡ false)
spared true true on own opp t e = absurd (true≢false e)
spared true false true true opp t e = absurd (true≢false e)
spared true false true false opp t e = (refl, refl)
spared true false false own opp t e = absurd (true≢false e)
spared false heads on own opp t e = absurd (false≢true t)

module _ (g n : ℕ) (m : ℕ → Moved) (i : ℕ) where
  pub survivor_clear : (m i).moves ≡ true → dies (cause_of g n m i) ≡ false
      → (inside (pos g) (m i).head ≡ true) × (member (cell_of g (m i).head) (m i).rest ≡ false)
  unfolding cause_of
  survivor_clear t e =
      spared (m i).moves (another g n m i (λ j. same (m i).head (m j).head)) (inside (pos g) (m i).head)
      (member (cell_of g (m i).head) (m i).rest) (another g n m i (on_body g n m (m i).head)) t e

-- ---- the snakes afterwards

body_cells : (m x : ℕ) (r : List ℕ) (l : Bool) → Cells m r → (l ≡ true → (x < m) × (member x r ≡ false)) → Cells m (x ∷ r if l else r)
unfolding all
body_cells m x r true ok h = let k = h refl in record { apart = distinct_more x r k.1 ok.apart; below = both (lt-ltb x m k.0) ok.below }
body_cells m x r false ok h = ok

body_some : (x : ℕ) (r : List ℕ) (l : Bool) → l ≡ true → 1 ≤ length (x ∷ r if l else r)
body_some x r true e = omega arith
body_some x r false e = absurd (false≢true e)

module _ (g n : ℕ) (m : ℕ → Moved) (rests : (i : ℕ) → i < n → Cells (g * g) (m i).rest) where
  abbrev c : ℕ → Option Cause
  c j = get_or (each_below n (cause_of g n m)) j None

  cause_at : (i : ℕ) → i < n → c i ≡ cause_of g n m i
  cause_at i h = each_at n (cause_of g n m) None i h

  pub after_cells : (i : ℕ) → i < n → Cells (g * g) (after g (m i) (c i)).body
  after_cells i h = body_cells (g * g) (cell_of g (m i).head) (m i).rest ((m i).moves && not (dies (c i))) (rests i h)
      (λ t.
      let d : dies (cause_of g n m i) ≡ false = ap dies (sym (cause_at i h)) ∙ not-true (dies (c i)) (and_right (m i).moves (not (dies (c i))) t) in
      let k = survivor_clear g n m i (and_left (m i).moves (not (dies (c i))) t) d in
      (cell_below g (m i).head k.0, k.1))

  module _ (s : Setting) (food : List ℕ) where
    abbrev next : State
    next = (transition_of s g n food m).next

    next_count : count next ≡ n
    unfolding transition_of
    next_count = each_long n (λ i. after g (m i) (c i))

    next_snake : (i : ℕ) → i < n → snake_of next i ≡ after g (m i) (c i)
    unfolding transition_of
    next_snake i h = each_at n (λ i. after g (m i) (c i)) nobody i h

    due_le : (b : Bool) (e : ℕ → Bool) → (0 if b else count_below n e) ≤ n
    due_le true e = omega arith
    due_le false e = count_le e n

    next_due : next.due ≤ n
    unfolding transition_of
    next_due =
        let z : ℕ → Snake = λ i. get_or (each_below n (λ i. after g (m i) (c i))) i nobody in
        due_le (is_terminal n c z s) (λ i. get_or (each_below n (λ i. ate_now (m i) (c i))) i false)

    next_cells : (i : ℕ) → i < n → Cells (g * g) (body_of next i)
    next_cells i h = subst (λ (z : Snake). Cells (g * g) z.body) (sym (next_snake i h)) (after_cells i h)

    next_living : (i : ℕ) → i < n → (snake_of next i).alive ≡ true → 1 ≤ length (body_of next i)
    next_living i h t =
        let e = next_snake i h in
        subst (λ (z : Snake). 1 ≤ length z.body) (sym e)
        (body_some (cell_of g (m i).head) (m i).rest ((m i).moves && not (dies (c i))) (ap (λ (z : Snake). z.alive) (sym e) ∙ t))

    pub next_holdable : 2 ≤ n → n ≤ 8 → 1 ≤ g → g ≤ 32 → length food ≤ g * g → all (λ c. ltb c (g * g)) food ≡ true → ascending 0 food ≡ true → Holdable next
    unfolding transition_of
    next_holdable n-min n-max g-min g-max f-max f-cells f-rising =
        let e = next_count in
        record {
          snakes_min = rw e n-min;
          snakes_max = rw e n-max;
          side_min = g-min;
          side_max = g-max;
          due_max = omega (arith, next_due);
          food_max = le_trans (keep_small _ food) f-max;
          food_cells = all_keep (λ c. ltb c (g * g)) _ food f-cells;
          rising = ascending_keep _ 0 food f-rising;
          lengths = λ i h. let k = next_cells i (rw e at h) in cells_short (g * g) (body_of next i) k.apart k.below;
          cells = λ i h. (next_cells i (rw e at h)).below;
          apart = λ i h. (next_cells i (rw e at h)).apart;
          living = λ i h t. next_living i (rw e at h) t;
        }

-- ---- a step

module _ (s : Setting) (t : State) (acts : List ℕ) (ok : Holdable t) where
  moved_cells : (i : ℕ) → i < count t → Cells (area t) (get_or (each_below (count t) (moved_of t acts)) i (stays nobody)).rest
  moved_cells i h =
      rw (each_at (count t) (moved_of t acts) (stays nobody) i h)
      (rest_cells t.side (area t) t.food (snake_of t i) (get_or acts i 0) (record { apart = ok.apart i h; below = ok.cells i h }))

  pub stepped_holdable : Holdable (stepped s t acts).next
  unfolding stepped
  stepped_holdable =
      next_holdable t.side (count t) (λ i. get_or (each_below (count t) (moved_of t acts)) i (stays nobody)) moved_cells s t.food
      ok.snakes_min ok.snakes_max ok.side_min ok.side_max ok.food_max ok.food_cells ok.rising

-- whatever the actions are
pub step_again : (s : Setting) (w acts : List ℕ) → well_formed w ≡ true → well_formed (image_of (stepped s (state_of w) acts).next) ≡ true
step_again s w acts t = image_well_formed (stepped s (state_of w) acts).next (stepped_holdable s (state_of w) acts (holds_state w (sound w t)))
