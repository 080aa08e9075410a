-- `faults::check_image` meets its contract: the check accepts, or the fault is looked for. Assumes nothing.
use Rattle.faults.proofs.Rows.{check_accepts, check_refuses}
use Rattle.faults.proofs.check_image.Goals as goal

pub returns-then-well_formed : goal.returns-then-well_formed
returns-then-well_formed c = search check_accepts

pub returns : goal.returns
returns c = search check_refuses
