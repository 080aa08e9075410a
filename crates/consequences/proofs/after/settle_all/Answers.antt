-- `consequences::settle_all` meets its contract: the invariant says that the snakes passed are settled and the places after them blank (`Laws`).
-- Assumes nothing.
use Rattle.consequences.proofs.Laws.{settled_none, settled_next}
use Rattle.consequences.proofs.after.settle_all.Goals as goal

pub loop-i-init : goal.loop-i-init
loop-i-init c = search settled_none

pub loop-i-preserved : goal.loop-i-preserved
loop-i-preserved c = search settled_next
