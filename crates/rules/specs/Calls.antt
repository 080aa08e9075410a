-- What each public call says: by its table of refusals, or what comes where no row holds. Assumes nothing.
use Rattle.std.specs.Prelude.{ℕ, Bool, true, false, ◌&&◌, List, [], length, ltb, ℤ, Float, Option, Ok}
use Rattle.lists.specs.Choice.{◌if◌else◌}
use Rattle.rules.specs.State.{State, snake_of}
use Rattle.rules.specs.Events.{eight}
use Rattle.rules.specs.Image.{image_of, snakes_in, body_at, state_of, well_formed}
use Rattle.rules.specs.Setting.{setting_order, side_of, initial_state}
use Rattle.rules.specs.Step.{Transition, stepped}
use Rattle.rules.specs.Struck.{hits_in}
use Rattle.rules.specs.Chance.{outcomes, drawn, after_draw, rank_of}
use Rattle.rules.specs.View.{view, lit}
use Rattle.rules.specs.LengthKey.{length_key}
use Rattle.rules.specs.Turns.{chance_acts, legal_for, truncated}
use Rattle.rules.specs.Reward.{reward_of}
use Rattle.rules.specs.Says.{Says, by_table, Shape, box, discrete}
use Rattle.rules.specs.Orders.{initial_order, step_order, struck_order, observe_order, count_order, draw_order, rank_order, image_order, agent_order, reward_order, space_order}
use Rattle.rules.specs.declared.Setting.{Setting}
use Rattle.rules.specs.declared.Event.{Event}
use Rattle.rules.specs.declared.Hit.{Hit}
use Rattle.rules.specs.declared.Stepped.{Stepped}
use Rattle.rules.specs.declared.Drawn.{Drawn}
use Rattle.rules.specs.declared.Weights.{Weights}

unfoldable pub setting_says : Setting → Says (Unit {0})
setting_says s = by_table (setting_order s) (Ok tt)

-- what is wrong with an image, and where
unfoldable pub image_says : List ℕ → Says (Unit {0})
image_says w = by_table (image_order w) (Ok tt)

-- room is the length of the lent buffer
unfoldable pub initial_says : Setting → ℕ → Says State
initial_says s room = by_table (initial_order s room) (Ok (initial_state s))

unfoldable pub step_says : Setting → List ℕ → List ℕ → ℕ → Says Transition
step_says s w acts room = by_table (step_order s w acts room) (Ok (stepped s (state_of w) acts))

-- what the call hands back of a step: 'An answer gives the count of words it wrote'; 'Event entries from n on are blank'
abbrev pub stepped_of : Transition → Stepped
stepped_of o = record { words = length (image_of o.next); terminal = o.terminal; events = eight o.events }

unfoldable pub struck_says : Setting → List ℕ → List ℕ → Says (List (Option Hit))
struck_says s w acts = by_table (struck_order s w acts) (Ok (hits_in (state_of w) acts))

-- room counts numbers
unfoldable pub observe_says : List ℕ → ℕ → ℕ → Says (List Float)
observe_says w a room = by_table (observe_order w a room) (Ok (view (state_of w) a))

unfoldable pub count_says : List ℕ → Says ℕ
count_says w = by_table (count_order w) (Ok (outcomes (state_of w)))

pub record Draw : Type 0 where
  pub next : State
  pub cells : List ℕ

-- and of a draw
abbrev pub drawn_of : Draw → Drawn
drawn_of d = record { words = length (image_of d.next); cells = length d.cells }

unfoldable pub draw_says : List ℕ → ℕ → ℕ → ℕ → Says Draw
draw_says w i room list_room = by_table (draw_order w i room list_room) (Ok (record { next = after_draw (state_of w) i; cells = drawn (state_of w) i }))

unfoldable pub rank_says : List ℕ → List ℕ → Says ℕ
rank_says w l = by_table (rank_order w l) (Ok (rank_of (state_of w) l))

unfoldable pub actor_says : List ℕ → Says Bool
actor_says w = by_table (image_order w) (Ok (chance_acts (state_of w)))

unfoldable pub legal_says : List ℕ → ℕ → Says (List ℕ)
legal_says w a = by_table (agent_order w a) (Ok (legal_for (state_of w) a))

unfoldable pub key_says : List ℕ → Says (Option ℕ)
key_says w = by_table (image_order w) (Ok (length_key (state_of w)))

unfoldable pub truncation_says : List ℕ → ℕ → Event → Says Event
truncation_says w a e = by_table (agent_order w a) (Ok (truncated e (snake_of (state_of w) a).alive))

unfoldable pub reward_says : Weights → Event → Says Float
reward_says w e = by_table (reward_order w) (Ok (reward_of w e))

unfoldable pub space_says : ℤ → Says Shape
space_says g = by_table (space_order g) (Ok (box 5 (side_of g) (side_of g) (lit false) (lit true)))

-- '(added, for actions) discrete 3'
abbrev pub action_says : Says Shape
action_says = Ok (discrete 3)

-- 'the port gives that part of the caller's slice back; for a malformed image or no such snake, the empty part'
unfoldable pub body_asked : List ℕ → ℕ → List ℕ
body_asked w i = body_at w i if well_formed w && ltb i (snakes_in w) else []
