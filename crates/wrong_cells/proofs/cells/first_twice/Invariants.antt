-- `wrong_cells::first_twice` meets its contract. The invariant: the bodies so far have no cell twice, and the next stamp is new to the board (`BodiesTo`).
-- Assumes nothing.
use Rattle.wellformed.proofs.Loops.{BodiesTo}
use Rattle.wrong_cells.proofs.cells.first_twice.Given as goal

abbrev pub invariant-loop-i : goal.invariant-loop-i
invariant-loop-i l = BodiesTo l.image l.board l.i
