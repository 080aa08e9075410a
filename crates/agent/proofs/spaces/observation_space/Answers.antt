-- `agent::observation_space` meets its contract: a side below 1 or above 32 is refused by 5, and another is a plain number; one law of `Sizes` each.
-- Assumes nothing.
use Rattle.agent.proofs.Sizes.{space_high, space_low, space_box}
use Rattle.agent.proofs.spaces.observation_space.Goals as goal
use Rattle.agent.proofs.spaces.observation_space.Goals.{then-grid-lt1-via-then-grid-lt1, then-grid-lt1-via-else-grid-lt1+then-grid-gt32}

pub returns-then-grid-lt1 : goal.returns-then-grid-lt1
returns-then-grid-lt1 c =
    elim c.then-grid-lt1.branch [ then-grid-lt1-via-then-grid-lt1 w ↦ search space_low | then-grid-lt1-via-else-grid-lt1+then-grid-gt32 w ↦ search space_high ]

pub returns : goal.returns
returns c = search space_box
