-- `unit::is_outside` meets its contract: it makes the definition's two tests. Assumes nothing.
use Rattle.std.proofs.Common.{rules}
use Rattle.unit.specs.UnitNumber.{outside_count}
use Rattle.unit.proofs.is_outside.Goals as goal

pub returns : goal.returns
unfolding outside_count
returns c = search rules
