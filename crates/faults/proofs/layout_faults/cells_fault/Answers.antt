-- `faults::cells_fault` meets its contract: a cell beyond the grid is 54; cells below g² have a square of the board. Assumes nothing.
use borrow.Author.Rules.{rules}
use Rattle.faults.proofs.Rows.{at_54, on_grid}
use Rattle.faults.proofs.layout_faults.cells_fault.Goals as goal

pub returns-then-not-cells_fit : goal.returns-then-not-cells_fit
returns-then-not-cells_fit c = search at_54

pub bodies_fault-requires : goal.bodies_fault-requires
bodies_fault-requires c = search (rules, on_grid)
