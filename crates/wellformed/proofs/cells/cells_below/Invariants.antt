-- `wellformed::cells_below` meets its contract. The invariant: the flag, and the test of what is left, give the whole answer (`BelowTo`).
-- Assumes nothing.
use Rattle.wellformed.proofs.Loops.{BelowTo}
use Rattle.wellformed.proofs.cells.cells_below.Given as goal

abbrev pub invariant-loop-c : goal.invariant-loop-c
invariant-loop-c l = BelowTo l.cells l.area l.below l.c-index
