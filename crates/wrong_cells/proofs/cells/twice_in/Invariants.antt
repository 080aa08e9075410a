-- `wrong_cells::twice_in` meets its contract. The invariant: no cell before k stood earlier in the body (`Twice`).
-- Assumes nothing.
use Rattle.wrong_cells.proofs.Finding.{Twice}
use Rattle.wrong_cells.proofs.cells.twice_in.Given as goal

abbrev pub invariant-loop-k : goal.invariant-loop-k
invariant-loop-k l = Twice l.body l.k
