-- The twelve worked examples of document 01 ('Twelve proved examples') as one table, a second table for wrong definitions that neither they nor
-- a law shuts out, and what it means that a row holds. Assumes nothing.
use Rattle.std.specs.Prelude.{◌≡◌, ℕ, ◌^◌, Bool, true, false, List, [], ◌∷◌, ℤ, pos, neg_ℤ, Float, Option, Some, None}
use Rattle.std.specs.Float.{binary64}
use Rattle.std.specs.Float.Ieee.{of_int}
use Rattle.lists.specs.Below.{each_below}
use Rattle.rules.specs.State.{Snake, State}
use Rattle.rules.specs.Setting.{side_of, setting_check, worst}
use Rattle.rules.specs.Step.{Transition, stepped}
use Rattle.rules.specs.Chance.{free, outcomes, drawn, rank_of}
use Rattle.rules.specs.View.{shows}
use Rattle.rules.specs.LengthKey.{length_key}
use Rattle.rules.specs.Reward.{reward_of}
use Rattle.rules.specs.Events.{dies, blank}
use Rattle.rules.specs.declared.Setting.{Setting}
use Rattle.rules.specs.declared.Heading.{Heading}
use Rattle.rules.specs.declared.Heading.TheVariants.{Up, Right, Left}
use Rattle.rules.specs.declared.Cause.{Cause}
use Rattle.rules.specs.declared.Cause.TheVariants.{OppBody, HeadOn}
use Rattle.rules.specs.declared.Event.{Event}
use Rattle.rules.specs.declared.Weights.{Weights}

pub data Example : Type 0 where
  accepted : Setting → ℕ → Example
  refused : Setting → ℕ → Example
  draw : State → List ℕ → ℕ → ℕ → List ℕ → Example
  turn : ℕ → ℕ → ℕ → Heading → ℕ → ℕ → Example
  move : Setting → State → List ℕ → List Event → Example
  key : State → ℕ → Example
  -- of the second table alone
  steps : Setting → State → List ℕ → Transition → Example
  pays : Weights → Event → ℤ → Example

-- an accepted setting and its product; a refused one and its number; the free cells, the count, and what an index draws, which ranks as that index; a place,
-- a heading and the place where it shows; a step's events; the length cell. Then: all that comes of a step; the reward of an event, a whole number
abbrev pub Holds : Example → Type 0
Holds (accepted s p) = (setting_check s ≡ 0) × (worst s.num_snakes (side_of s.grid_size) s.initial_food_count ≡ p)
Holds (refused s k) = setting_check s ≡ k
Holds (draw t cells p i list) = (free t ≡ cells) × (outcomes t ≡ p) × (drawn t i ≡ list) × (rank_of t list ≡ i)
Holds (turn g r c h r' c') = shows g h r c ≡ (r', c')
Holds (move s t acts es) = (stepped s t acts).events ≡ es
Holds (key t k) = length_key t ≡ Some k
Holds (steps s t acts o) = stepped s t acts ≡ o
Holds (pays w e x) = reward_of w e ≡ of_int binary64 x

abbrev pub EachHolds : List Example → Type 0
EachHolds [] = Unit {0}
EachHolds (x ∷ xs) = Holds x × EachHolds xs

-- ---- the rows' parts

-- snakes, grid, length, food
abbrev pub plain : ℕ → ℕ → ℕ → ℕ → Setting
plain n g k f = record { num_snakes = n; grid_size = pos g; initial_length = k; play_to_last = false; win_food_lead = None; initial_food_count = f; max_ticks = None }

abbrev pub living : Heading → List ℕ → Snake
living h b = record { heading = h; alive = true; body = b }

abbrev pub arena : ℕ → ℕ → List Snake → List ℕ → State
arena g due zs fs = record { side = g; due = due; birth = false; snakes = zs; food = fs }

-- cause, killed, won, lost, drew
abbrev pub event : Option Cause → Bool → Bool → Bool → Bool → Event
event c k w l d = record { ate_food = false; died = dies c; death_cause = c; killed_opponent = k; won = w; lost = l; drew = d; survived_to_max_ticks = false }

-- grid 3, free 0, 1, 4, 6, 7, 8, two apples due
abbrev pub six_free : State
six_free = arena 3 2 (living Up (2 ∷ []) ∷ living Up (3 ∷ []) ∷ []) (5 ∷ [])

abbrev pub facing : List ℕ → List ℕ → State
facing a b = arena 4 0 (living Right a ∷ living Left b ∷ []) []

abbrev pub cells : ℕ → List ℕ
cells k = each_below k (λ i. i)

unfoldable pub the_twelve : List Example
the_twelve =
    accepted (plain 8 10 1 8) 7503063898176000
    ∷ refused (plain 8 11 1 8) 8
    ∷ accepted (plain 2 3 4 1) 9
    ∷ refused (plain 2 3 4 2) 12
    ∷ refused (plain 2 3 5 1) 11
    ∷ refused (plain 2 3 7 1) 9
    ∷ refused (plain 2 2 1 1) 10
    ∷ draw six_free (0 ∷ 1 ∷ 4 ∷ 6 ∷ 7 ∷ 8 ∷ []) 30 7 (1 ∷ 6 ∷ [])
    ∷ draw six_free (0 ∷ 1 ∷ 4 ∷ 6 ∷ 7 ∷ 8 ∷ []) 30 16 (6 ∷ 1 ∷ [])
    ∷ turn 3 1 2 Right 0 1
    ∷ turn 3 1 2 Left 2 1
    ∷ move (plain 2 4 2 0) (facing (1 ∷ 0 ∷ []) (2 ∷ 3 ∷ [])) (0 ∷ 0 ∷ [])
    (event (Some OppBody) false false false true ∷ event (Some OppBody) false false false true ∷ [])
    ∷ move (plain 2 4 1 0) (facing (1 ∷ []) (2 ∷ 3 ∷ [])) (0 ∷ 0 ∷ [])
    (event (Some OppBody) false false true false ∷ event None true true false false ∷ [])
    ∷ key (arena 6 0 (living Up (cells 3) ∷ living Up (cells 30) ∷ []) []) 65545
    ∷ []

-- ---- the second table's parts

abbrev pub dead : Heading → List ℕ → Snake
dead h b = record { heading = h; alive = false; body = b }

-- killed, and died of a cause and lost
abbrev pub kill : Event
kill = event None true false false false

abbrev pub lost_by : Option Cause → Event
lost_by c = event c false false true false

-- terminal, the next state, the events
abbrev pub comes : Bool → State → List Event → Transition
comes over t es = record { next = t; events = es; terminal = over }

-- weights whose sum shows the order of adding
abbrev pub coarse : Weights
coarse =
    let w : ℤ → Float = of_int binary64 in
    record { step = w (pos (2 ^ 54)); food = w (pos 3); loss = w (neg_ℤ (pos (2 ^ 54))); draw = w (pos 1); kill = w (pos 2); win = w (neg_ℤ (pos 2)); survival = w (pos 1) }

-- alive, and every flag stands
abbrev pub flagged : Event
flagged = record { ate_food = true; died = false; death_cause = None; killed_opponent = true; won = true; lost = true; drew = true; survived_to_max_ticks = true }

-- each row is what a must-fail edit of this crate contradicts
unfoldable pub the_others : List Example
the_others =
    -- 'Actions 0 forward, 1 left, 2 right'; 'The dying lose their head cell': an eater that dies turns, keeps its tail, and leaves its apple
    steps (plain 3 4 1 0) (arena 4 0 (living Up (9 ∷ 13 ∷ []) ∷ living Up (6 ∷ 10 ∷ 14 ∷ []) ∷ living Left (15 ∷ []) ∷ []) (10 ∷ [])) (2 ∷ 0 ∷ 0 ∷ [])
    (comes false (arena 4 0 (dead Right (9 ∷ 13 ∷ []) ∷ living Up (2 ∷ 6 ∷ 10 ∷ []) ∷ living Left (14 ∷ []) ∷ []) (10 ∷ [])) (lost_by (Some OppBody) ∷ kill ∷ blank ∷ []))
    -- 'HeadOn (two moved heads equal, even off the grid)'
    ∷ steps (plain 2 4 1 0) (arena 4 0 (living Up (0 ∷ []) ∷ living Up (0 ∷ []) ∷ []) []) (0 ∷ 0 ∷ [])
    (comes true (arena 4 0 (dead Up [] ∷ dead Up [] ∷ []) []) (event (Some HeadOn) false false false true ∷ event (Some HeadOn) false false false true ∷ []))
    -- 'credits the lowest-numbered survivor whose body holds the fatal cell': a later one is not credited
    ∷ steps (plain 3 5 1 0) (arena 5 0 (living Right (11 ∷ 10 ∷ []) ∷ living Up (7 ∷ 12 ∷ 17 ∷ []) ∷ living Right (13 ∷ 12 ∷ 16 ∷ []) ∷ []) []) (0 ∷ 0 ∷ 0 ∷ [])
    (comes false (arena 5 0 (dead Right (11 ∷ []) ∷ living Up (2 ∷ 7 ∷ 12 ∷ []) ∷ living Right (14 ∷ 13 ∷ 12 ∷ []) ∷ []) []) (lost_by (Some OppBody) ∷ kill ∷ blank ∷ []))
    -- 'A terminal state may be stepped'; 'One survivor and a death: it won': without a death nobody won
    ∷ steps (plain 2 4 1 0) (arena 4 0 (living Right (0 ∷ []) ∷ dead Up (5 ∷ []) ∷ []) []) (0 ∷ 7 ∷ [])
    (comes true (arena 4 0 (living Right (1 ∷ []) ∷ dead Up (5 ∷ []) ∷ []) []) (blank ∷ blank ∷ []))
    -- 'Else add food, kill, win, loss, survival in that order as flagged': no other order gives 9
    ∷ pays coarse flagged (pos 9)
    ∷ []
