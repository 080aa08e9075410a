-- What a call that is not refused tells: its image has at most eight snakes and fits. Assumes nothing.
use Rattle.std.specs.Prelude.{Ok, Err}
use Prim.Native.Nat.{ℕ, ◌≤◌}
use native.Mathlib.Omega.{arith}
use mathlib.Core.Path.{◌≡◌, sym, ap, ◌∙◌}
use mathlib.Core.Bool.{Bool, true, not}
use mathlib.Core.List.{List, [], ◌∷◌, ◌++◌}
use lib.Dec.{ltb}
use lib.ListN.{length}
use borrow.Author.Tests.{ltb-false}
use Rattle.lists.proofs.Tests.{or_false_left, or_false_right, and_left, and_right}
use Rattle.lists.proofs.Lists.{all_append}
use Rattle.lists.proofs.Below.{each_long}
use Rattle.rules.specs.State.{State, count}
use Rattle.rules.specs.Image.{image_of, state_of, well_formed}
use Rattle.rules.specs.Tables.{Table, none_hold}
use Rattle.rules.specs.Setting.{setting_order, start_snake, initial_state}
use Rattle.rules.specs.Step.{Transition, transition_of, stepped}
use Rattle.rules.specs.Chance.{drawn, after_draw}
use Rattle.rules.specs.Says.{Says, seen}
use Rattle.rules.specs.Calls.{initial_says, step_says, Draw, draw_says}
use Rattle.rules.specs.Faults.{image_rows}
use Rattle.rules.specs.Orders.{initial_order, asked_rows, asked_order, step_order, due_rows, count_order, draw_rows, draw_order}
use Rattle.rules.specs.declared.refusal.Refusal.{Refusal}
use Rattle.rules.specs.declared.Setting.{Setting}
use Rattle.rules.proofs.Facts.{sound}
use Rattle.rules.proofs.Tables.{row_out, table_given, given_out, given_is}
use Rattle.rules.proofs.Faults.{rows_formed}
use Rattle.rules.proofs.Parts.{state_count}
use Rattle.rules.specs.declared.refusal.Refusal.TheVariants as Refusal

-- ---- an answer seen through f

module _ {A B : Type 0} where
  pub refused_by : (x : Says A) (f : A → B) (k : Refusal) → Err k ≡ seen f x → x ≡ Err k
  refused_by (Err j) f k e = let p : j ≡ k = cc in ap Err p
  refused_by (Ok a) f k e = let z : ◌≡◌ {A = ℕ} 0 1 = cc in absurd (omega arith)

-- ---- the next state of a call that is not refused

-- where no row of two tables holds, none of either does
halves : (t u : Table) → none_hold (t ++ u) ≡ true → (none_hold t ≡ true) × (none_hold u ≡ true)
halves t u h =
    let both = sym (all_append (λ (e : Refusal × Bool). not e.1) t u) ∙ h in
    (and_left (none_hold t) (none_hold u) both, and_right (none_hold t) (none_hold u) both)

pub record Fits (t : State) (room : ℕ) : Type 0 where
  pub few : count t ≤ 8
  pub short : length (image_of t) ≤ room

pub initial_fits : (s : Setting) (room : ℕ) (t : State) → initial_says s room ≡ Ok t → Fits t room
unfolding initial_says initial_state
initial_fits s room t e =
    let out = given_out (initial_order s room) (initial_state s) t e in
    let f = ltb-false 8 s.num_snakes (or_false_right (ltb s.num_snakes 2) (ltb 8 s.num_snakes) (out 0)) in
    let l = each_long s.num_snakes (start_snake s) in
    rw (← given_is (initial_order s room) (initial_state s) t e) (record { few = omega (arith, f, l); short = ltb-false room (length (image_of (initial_state s))) (out 11) })

-- a step keeps the snakes
pub snakes_kept : (s : Setting) (t : State) (acts : List ℕ) → count (stepped s t acts).next ≡ count t
unfolding stepped transition_of
snakes_kept s t acts = each_long (count t) _

well_few : (w : List ℕ) → well_formed w ≡ true → count (state_of w) ≤ 8
well_few w e = let ok = sound w e in omega (arith, state_count w, ok.snakes_max)

pub step_fits : (s : Setting) (w acts : List ℕ) (room : ℕ) (o : Transition) → step_says s w acts room ≡ Ok o → Fits o.next room
unfolding step_says
step_fits s w acts room o e =
    let n = stepped s (state_of w) acts in
    let room_row : Table = (Refusal.Buffer, ltb room (length (image_of n.next))) ∷ [] in
    let none = halves (asked_order s w acts) room_row (table_given (step_order s w acts room) n o e).0 in
    let asked = halves (setting_order s) (image_rows w ++ asked_rows s w acts) none.0 in
    let k = well_few w (rows_formed w (asked_rows s w acts) asked.1) in
    let l = snakes_kept s (state_of w) acts in
    rw (← given_is (step_order s w acts room) n o e) (record { few = omega (arith, k, l); short = ltb-false room (length (image_of n.next)) (row_out room_row 0 none.1) })

pub draw_fits : (w : List ℕ) (i room cells : ℕ) (d : Draw) → draw_says w i room cells ≡ Ok d → Fits d.next room
unfolding draw_says after_draw
draw_fits w i room cells d e =
    let n : Draw = record { next = after_draw (state_of w) i; cells = drawn (state_of w) i } in
    let none = halves (count_order w) (draw_rows w i room cells) (table_given (draw_order w i room cells) n d e).0 in
    let k = well_few w (rows_formed w (due_rows w) none.0) in
    let last = row_out (draw_rows w i room cells) 1 none.1 in
    let short = ltb-false room (length (image_of n.next)) (or_false_left (ltb room (length (image_of n.next))) (ltb cells (length n.cells)) last) in
    rw (← given_is (draw_order w i room cells) n d e) (record { few = k; short = short })
