-- `score::reward` meets its contract: weights that are not all finite are refused by 31, and else the event is of a dead snake or of a living one; one law of
-- `Sums` each. Assumes nothing.
use Rattle.score.proofs.Sums.{reward_31, reward_dead_lem, reward_living_lem}
use Rattle.score.proofs.rewards.reward.Goals as goal

pub returns-then-not-all_finite : goal.returns-then-not-all_finite
returns-then-not-all_finite c = search reward_31

pub returns-then-event : goal.returns-then-event
returns-then-event c = search reward_dead_lem

pub returns : goal.returns
returns c = search reward_living_lem
