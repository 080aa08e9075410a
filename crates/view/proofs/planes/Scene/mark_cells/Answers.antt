-- `view::Scene::mark_cells` meets its contract: the two marks are the body's (`cells_marked`). Assumes nothing.
use Rattle.view.proofs.Marks.{cells_marked}
use Rattle.view.proofs.planes.Scene.mark_cells.Goals as goal

pub returns : goal.returns
returns c = search cells_marked
