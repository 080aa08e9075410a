-- `view::mark` meets its contract. The invariant: what is left to mark on the plane as it is gives what all cells give on the plane as it was (`CellsMarked`).
-- Assumes nothing.
use Rattle.view.specs.Marks.{CellsMarked}
use Rattle.view.proofs.planes.mark.Given as goal

abbrev pub invariant-loop-cell : goal.invariant-loop-cell
invariant-loop-cell l = CellsMarked l.g l.heading l.cells l.cell-index l.initial.plane l.plane
