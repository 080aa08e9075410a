-- `view::clear` meets its contract: the front is filled with 0.0, and the rest stays (`filled`). Assumes nothing.
use Rattle.view.proofs.Marks.{filled}
use Rattle.view.proofs.planes.clear.Goals as goal

pub returns : goal.returns
returns c = filled _ _ _ c.requires (c.fill.ensures.after (λ y q. q))
