-- The reward of an event, in binary64 (01, 'Reward'). Assumes nothing.
use Rattle.std.specs.Prelude.{Bool, [], ◌∷◌, Float}
use Rattle.std.specs.Float.{binary64}
use Rattle.std.specs.Float.Ieee.{add}
use Rattle.std.specs.Float.Ieee.Scale.{finite}
use Rattle.lists.specs.Choice.{◌if◌else◌}
use Rattle.lists.specs.Lists.{every}
use Rattle.rules.specs.declared.Event.{Event}
use Rattle.rules.specs.declared.Weights.{Weights}

-- 'a reward weight not finite'
abbrev pub all_finite : Weights → Bool
all_finite w =
    every (finite w.step ∷ finite w.food ∷ finite w.loss ∷ finite w.draw ∷ finite w.kill ∷ finite w.win ∷ finite w.survival ∷ [])

-- x, and w added where the flag stands
abbrev pub plus : Float → Bool → Float → Float
plus x b w = add binary64 x w if b else x

-- 'Start at step. Died: add loss if lost, draw if drew, stop'
abbrev pub reward_dead : Weights → Event → Float
reward_dead w e = plus (plus w.step e.lost w.loss) e.drew w.draw

-- 'Else add food, kill, win, loss, survival in that order as flagged'
abbrev pub reward_living : Weights → Event → Float
reward_living w e =
    plus (plus (plus (plus (plus w.step e.ate_food w.food) e.killed_opponent w.kill) e.won w.win) e.lost w.loss) e.survived_to_max_ticks w.survival

unfoldable pub reward_of : Weights → Event → Float
reward_of w e = reward_dead w e if e.died else reward_living w e
