-- `wellformed::record_fits` meets its contract: its strict tests are those of the definition, at the record's words. Assumes nothing.
use Rattle.std.proofs.Common.{arith}
use Rattle.lists.specs.Lists.{every}
use Rattle.wellformed.proofs.contents.record_fits.Goals as goal

pub returns : goal.returns
unfolding every
returns c = grind arith
