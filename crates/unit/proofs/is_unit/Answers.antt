-- `unit::is_unit` meets its contract: both tests are binary64's own, and `&` is the definition's. Assumes nothing.
use Rattle.std.proofs.Common.{rules}
use Rattle.std.specs.Float.Ieee.{le, lt, of_bits}
use Rattle.unit.specs.UnitNumber.{is_unit}
use Rattle.unit.proofs.is_unit.Goals as goal

pub returns : goal.returns
unfolding le lt is_unit of_bits
returns c = search rules
