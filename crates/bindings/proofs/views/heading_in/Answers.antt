-- `bindings::heading_in` meets its contract: a number that is none of 0, 1 and 2 is Left's (`heading_last`). Assumes nothing.
use Rattle.image.proofs.Headed.{heading_last}
use Rattle.bindings.proofs.views.heading_in.Goals as goal

pub returns-in_default : goal.returns-in_default
returns-in_default c = search heading_last
