-- `consequences::Snakes::find_killers` meets its contract: the invariant says that the deaths passed are credited and nobody in the places after them (`Laws`).
-- Assumes nothing.
use Rattle.judge.proofs.Loops.{fill_none}
use Rattle.consequences.proofs.Laws.{killers_next}
use Rattle.consequences.proofs.settled.Snakes.find_killers.Goals as goal

pub loop-i-init : goal.loop-i-init
loop-i-init c = search fill_none

pub loop-i-preserved : goal.loop-i-preserved
loop-i-preserved c = search killers_next
