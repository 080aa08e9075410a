-- `strips::mark` meets its contract: the strip's word with one bit more is the strip with one mark more (`marks`). Assumes nothing.
use Rattle.strips.proofs.Strips.{marks}
use Rattle.strips.proofs.marks.mark.Goals as goal

pub returns : goal.returns
returns c = search marks
