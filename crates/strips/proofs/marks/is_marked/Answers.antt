-- `strips::is_marked` meets its contract, which says what it computes. Assumes nothing.
use Rattle.strips.proofs.Strips.{marked_is}
use Rattle.strips.proofs.marks.is_marked.Goals as goal

pub returns : goal.returns
returns c = search marked_is
