-- `consequences::Snakes::find_living` meets its contract: the invariant says that none of the snakes passed lives (`Leading`).
-- Assumes nothing.
use Rattle.consequences.proofs.Leading.{living_next}
use Rattle.consequences.proofs.settled.Snakes.find_living.Goals as goal

pub loop-i-preserved : goal.loop-i-preserved
loop-i-preserved c = search living_next
