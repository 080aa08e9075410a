-- `wellformed::contents_fit` meets its contract: its strict tests are those of the definition, in their order. Assumes nothing.
use Rattle.std.proofs.Common.{arith}
use Rattle.lists.specs.Lists.{every}
use Rattle.rules.specs.Image.{contents_fit}
use Rattle.wellformed.proofs.contents.contents_fit.Goals as goal

pub returns : goal.returns
unfolding every contents_fit
returns c = grind arith
