-- `wellformed::rising` meets its contract. The invariant: the flag, and the test of what is left above `low`, give the whole answer (`RisingTo`).
-- Assumes nothing.
use Rattle.wellformed.proofs.Loops.{RisingTo}
use Rattle.wellformed.proofs.cells.rising.Given as goal

abbrev pub invariant-loop-cell : goal.invariant-loop-cell
invariant-loop-cell l = RisingTo l.food l.rises l.low l.cell-index
