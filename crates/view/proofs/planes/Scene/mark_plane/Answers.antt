-- `view::Scene::mark_plane` meets its contract: plane ch lies in the numbers, the part holds squares alone, and the plane comes back marked (`plane_put`).
-- Assumes nothing.
use Rattle.view.proofs.Marks.{plane_put}
use Rattle.view.proofs.planes.Scene.mark_plane.Goals as goal

pub returns : goal.returns
returns c = search plane_put
