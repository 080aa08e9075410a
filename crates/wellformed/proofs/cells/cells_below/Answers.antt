-- `wellformed::cells_below` meets its contract. The invariant: the flag, and the test of what is left, give the whole answer (`BelowTo`).
-- Assumes nothing.
use Rattle.wellformed.proofs.Loops.{below_next, below_all}
use Rattle.wellformed.proofs.cells.cells_below.Goals as goal

pub loop-c-preserved : goal.loop-c-preserved
loop-c-preserved c = search below_next

pub returns : goal.returns
returns c = search below_all
