-- `view::Scene::mark_snakes` meets its contract: the agent's body, then the others (`snakes_marked`). Assumes nothing.
use Rattle.view.proofs.Marks.{snakes_marked}
use Rattle.view.proofs.planes.Scene.mark_snakes.Goals as goal

pub returns : goal.returns
returns c = search snakes_marked
