-- `view::turned` meets its contract: each heading's arm is one law of `Turning`. Assumes nothing.
use Rattle.view.proofs.Turning.{turned_down, turned_left}
use Rattle.view.proofs.planes.turned.Goals as goal

pub returns-in-Down : goal.returns-in-Down
returns-in-Down c = search turned_down

pub returns-in-Left : goal.returns-in-Left
returns-in-Left c = search turned_left
