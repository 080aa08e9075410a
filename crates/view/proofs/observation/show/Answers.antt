-- `view::show` meets its contract: the image is sound, which bounds each number, and the three marks, one after the other, are the view (`shown`).
-- Assumes nothing.
use Rattle.view.proofs.Shown.{shown}
use Rattle.view.proofs.observation.show.Goals as goal

pub returns : goal.returns
returns c = search shown
