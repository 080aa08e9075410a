-- `view::mark` meets its contract: a cell is marked where it shows, a turn of the loop (`Marks`). Assumes nothing.
use Rattle.view.proofs.Marks.{cells_next, cells_all}
use Rattle.view.proofs.planes.mark.Goals as goal

pub loop-cell-preserved : goal.loop-cell-preserved
loop-cell-preserved c = search cells_next

pub returns : goal.returns
returns c = search cells_all
