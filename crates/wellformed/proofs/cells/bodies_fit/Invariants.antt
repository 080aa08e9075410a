-- `wellformed::bodies_fit` meets its contract. The invariant: the bodies so far have no cell twice, and the next stamp is new to the board (`BodiesTo`).
-- Assumes nothing.
use Rattle.wellformed.proofs.Loops.{BodiesTo}
use Rattle.wellformed.proofs.cells.bodies_fit.Given as goal

abbrev pub invariant-loop-i : goal.invariant-loop-i
invariant-loop-i l = BodiesTo l.image l.board l.i
