-- `agent::truncation_in` meets its contract: the image is sound, and each `return` is one law of `Gates`.
-- Assumes nothing.
use Rattle.agent.proofs.Gates.{mark_26, mark_gives}
use Rattle.agent.proofs.turns.truncation_in.Goals as goal

pub returns-then-image-agent : goal.returns-then-image-agent
returns-then-image-agent c = search mark_26

pub returns : goal.returns
returns c = search mark_gives
