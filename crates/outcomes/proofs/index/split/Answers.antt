-- `outcomes::split` meets its contract. The invariant: the digits from j on are written, and what is left of the index has the others (`Splitting`).
-- Assumes nothing.
use Rattle.outcomes.proofs.Radix.{split_next, split_all}
use Rattle.outcomes.proofs.index.split.Goals as goal

pub loop-j-preserved : goal.loop-j-preserved
loop-j-preserved c = search split_next

pub returns : goal.returns
returns c = search split_all
