-- `wrong_cells::first_fall` meets its contract. The invariant: each word of the food up to k is above the one before it (`Falls`).
-- Assumes nothing.
use Rattle.wrong_cells.proofs.Finding.{Falls}
use Rattle.wrong_cells.proofs.cells.first_fall.Given as goal

abbrev pub invariant-loop-k : goal.invariant-loop-k
invariant-loop-k l = Falls l.image l.k
