-- `wellformed::ranges_fit` meets its contract: the contents decide, or the records do. Assumes nothing.
use Rattle.std.proofs.Common.{arith}
use Rattle.rules.specs.Image.{ranges_fit}
use Rattle.wellformed.proofs.contents.ranges_fit.Goals as goal

pub returns-then-contents_fit : goal.returns-then-contents_fit
unfolding ranges_fit
returns-then-contents_fit c = grind arith

pub returns-else-contents_fit : goal.returns-else-contents_fit
unfolding ranges_fit
returns-else-contents_fit c = grind arith
