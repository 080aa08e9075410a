-- Who acts, which actions are legal, and the mark of a truncation (01, 'Turns'). Assumes nothing.
use Rattle.std.specs.Prelude.{ℕ, ◌≡◌, Bool, not, ◌&&◌, List, [], ◌∷◌, ltb}
use Rattle.lists.specs.Choice.{◌if◌else◌}
use Rattle.rules.specs.State.{State, snake_of}
use Rattle.rules.specs.declared.Event.{Event}

-- 'Chance acts while food is due; else all snakes at once'
abbrev pub chance_acts : State → Bool
chance_acts s = ltb 0 s.due

-- 'Actions 0, 1, 2 are legal for a living snake when none is due, otherwise none are'
abbrev pub legal_for : State → ℕ → List ℕ
legal_for s a = 0 ∷ 1 ∷ 2 ∷ [] if (snake_of s a).alive && not (chance_acts s) else []

-- 'Truncation sets an event's survival flag to its agent's alive flag and changes nothing else'
abbrev pub truncated : Event → Bool → Event
truncated e b = record {
  ate_food = e.ate_food;
  died = e.died;
  death_cause = e.death_cause;
  killed_opponent = e.killed_opponent;
  won = e.won;
  lost = e.lost;
  drew = e.drew;
  survived_to_max_ticks = b;
}

-- f is e but for its survival flag, which is b
pub record OnlySurvival (e f : Event) (b : Bool) : Type 0 where
  pub ate : f.ate_food ≡ e.ate_food
  pub died : f.died ≡ e.died
  pub cause : f.death_cause ≡ e.death_cause
  pub killed : f.killed_opponent ≡ e.killed_opponent
  pub won : f.won ≡ e.won
  pub lost : f.lost ≡ e.lost
  pub drew : f.drew ≡ e.drew
  pub survived : f.survived_to_max_ticks ≡ b
