-- Document 01's 'Order' as tables: a row is a refusal's number and when it is given. Assumes nothing.
use Rattle.std.specs.Prelude.{ℕ, ◌*◌, ◌-◌, ◌^◌, Bool, not, ◌&&◌, ◌||◌, List, [], ◌∷◌, ◌++◌, ltb, eqb, length, get_or, ℤ, pos}
use Rattle.std.specs.Int.Signed.{lt_z}
use Rattle.lists.specs.Below.{some_below}
use Rattle.rules.specs.Tables.{Table}
use Rattle.rules.specs.Grid.{same_z}
use Rattle.rules.specs.State.{State, count, snake_of}
use Rattle.rules.specs.Image.{snakes_in, side_in, due_in, area_in, image_of, state_of}
use Rattle.rules.specs.Faults.{image_rows}
use Rattle.rules.specs.Setting.{setting_order, initial_state}
use Rattle.rules.specs.Step.{stepped}
use Rattle.rules.specs.Chance.{outcomes, drawn, after_draw, can_rank}
use Rattle.rules.specs.Reward.{all_finite}
use Rattle.rules.specs.declared.Setting.{Setting}
use Rattle.rules.specs.declared.Weights.{Weights}
use Rattle.rules.specs.declared.refusal.Refusal.TheVariants as Refusal

-- Where document 01 says 20, `image_rows` stands, 50 to 56: 'where 20 stood in an order, the whole group stands' (02, wish 4).
-- 21 'n or g differs from the setting', 22 / 23 'food is due at a step / none is due at a draw', 24 'action count is not n', 25 'a living snake's action above 2', 26 'agent not below n', 27 'outcome not below the count', 28 'count above 2^64 - 1', 29 'an output buffer shorter
-- than its answer', 30 'list to rank: wrong length, a cell not free, or repeated', 31 'a reward weight not finite'; 1 to 12 stand in Setting

-- 'Initial state: setting, 29'; room is the length of the lent buffer
abbrev pub initial_order : Setting → ℕ → Table
initial_order s room = setting_order s ++ ((Refusal.Buffer, ltb room (length (image_of (initial_state s)))) ∷ [])

-- 'n or g differs from the setting'
abbrev pub differs : Setting → List ℕ → Bool
differs s w = not (eqb (snakes_in w) s.num_snakes) || not (same_z (pos (side_in w)) s.grid_size)

-- 'a living snake's action above 2'; 'A dead snake's action may be any number'
abbrev pub bad_action : State → List ℕ → Bool
bad_action t acts = some_below (count t) (λ i. (snake_of t i).alive && ltb 2 (get_or acts i 0))

-- 21, 22, 24, 25, asked of a well-formed image
abbrev pub asked_rows : Setting → List ℕ → List ℕ → Table
asked_rows s w acts =
    (Refusal.OtherSetting, differs s w)
    ∷ (Refusal.FoodDue, ltb 0 (due_in w))
    ∷ (Refusal.ActionCount, not (eqb (length acts) (snakes_in w)))
    ∷ (Refusal.Action, bad_action (state_of w) acts)
    ∷ []

-- what is asked before anything is judged
abbrev pub asked_order : Setting → List ℕ → List ℕ → Table
asked_order s w acts = setting_order s ++ (image_rows w ++ asked_rows s w acts)

-- 'Step: setting, 20, 21, 22, 24, 25, 29'
abbrev pub step_order : Setting → List ℕ → List ℕ → ℕ → Table
step_order s w acts room = asked_order s w acts ++ ((Refusal.Buffer, ltb room (length (image_of (stepped s (state_of w) acts).next))) ∷ [])

-- who was hit where: the step's order without 29
abbrev pub struck_order : Setting → List ℕ → List ℕ → Table
struck_order s w acts = asked_order s w acts

-- 'Observation: 20, 26, 29'
abbrev pub observe_order : List ℕ → ℕ → ℕ → Table
observe_order w a room = image_rows w ++ ((Refusal.Agent, not (ltb a (snakes_in w))) ∷ (Refusal.Buffer, ltb room (5 * area_in w)) ∷ [])

-- 23 and 28, asked of a well-formed image
abbrev pub due_rows : List ℕ → Table
due_rows w = (Refusal.NoneDue, eqb (due_in w) 0) ∷ (Refusal.Count, ltb (2 ^ 64 - 1) (outcomes (state_of w))) ∷ []

-- 'Count: 20, 23, 28'
abbrev pub count_order : List ℕ → Table
count_order w = image_rows w ++ due_rows w

-- 27 and 29, asked of an index
abbrev pub draw_rows : List ℕ → ℕ → ℕ → ℕ → Table
draw_rows w i room list_room =
    (Refusal.Outcome, not (ltb i (outcomes (state_of w))))
    ∷ (Refusal.Buffer, ltb room (length (image_of (after_draw (state_of w) i))) || ltb list_room (length (drawn (state_of w) i)))
    ∷ []

-- 'Draw: 20, 23, 28, 27, 29'
abbrev pub draw_order : List ℕ → ℕ → ℕ → ℕ → Table
draw_order w i room list_room = count_order w ++ draw_rows w i room list_room

-- 30, asked of a list
abbrev pub rank_rows : List ℕ → List ℕ → Table
rank_rows w l = (Refusal.List, not (can_rank (state_of w) l)) ∷ []

-- 'Rank: 20, 23, 28, 30'
abbrev pub rank_order : List ℕ → List ℕ → Table
rank_order w l = count_order w ++ rank_rows w l

-- 'Actor, .. length cell: 20'; the check of an image
abbrev pub image_order : List ℕ → Table
image_order w = image_rows w

-- 'legal actions (then 26)'; 'Truncation: 20, 26'
abbrev pub agent_order : List ℕ → ℕ → Table
agent_order w a = image_rows w ++ ((Refusal.Agent, not (ltb a (snakes_in w))) ∷ [])

-- 'Reward: 31'
abbrev pub reward_order : Weights → Table
reward_order w = (Refusal.Weight, not (all_finite w)) ∷ []

-- 'grid above 32 (space query: or below 1)'
abbrev pub space_order : ℤ → Table
space_order g = (Refusal.Grid, lt_z (pos 32) g || lt_z g (pos 1)) ∷ []
