-- `view::Scene::mark_body` meets its contract: a body without a cell leaves the planes as they are, and any other lies where a sound image says (`Marks`).
-- Assumes nothing.
use Rattle.view.proofs.Marks.{body_empty}
use Rattle.view.proofs.planes.Scene.mark_body.Goals as goal

pub returns-else-len-ne0 : goal.returns-else-len-ne0
returns-else-len-ne0 c = search (body_empty, c.args.self.now.sound)
