-- `wrong_cells::first_beyond` meets its contract. The invariant: no word from the records' end up to k is g² or more (`Beyond`).
-- Assumes nothing.
use Rattle.wrong_cells.proofs.Finding.{Beyond}
use Rattle.wrong_cells.proofs.cells.first_beyond.Given as goal

abbrev pub invariant-loop-k : goal.invariant-loop-k
invariant-loop-k l = Beyond l.image l.k
