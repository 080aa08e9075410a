-- `wellformed::records_fit` meets its contract. The invariant: the flag tells of the first i records (`RecordsTo`).
-- Assumes nothing.
use Rattle.wellformed.proofs.Loops.{records_none, records_next}
use Rattle.wellformed.proofs.contents.records_fit.Goals as goal

pub loop-i-init : goal.loop-i-init
loop-i-init c = search records_none

pub loop-i-preserved : goal.loop-i-preserved
loop-i-preserved c = search records_next
