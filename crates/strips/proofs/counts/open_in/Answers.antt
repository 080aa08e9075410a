-- `strips::open_in` meets its contract: what is not set of a word's 64 bits is clear (`clear_many`). Assumes nothing.
use Rattle.strips.proofs.Strips.{clear_many}
use Rattle.strips.proofs.counts.open_in.Goals as goal

pub returns : goal.returns
returns c = clear_many c.args.strip c.ranges.strip
