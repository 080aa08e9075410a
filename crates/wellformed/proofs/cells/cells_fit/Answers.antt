-- `wellformed::cells_fit` meets its contract: the words past the records are the cells. Assumes nothing.
use Rattle.std.proofs.Common.{arith}
use Rattle.lists.proofs.Lists.{rest_is}
use Rattle.rules.specs.Image.{cells_fit}
use Rattle.wellformed.proofs.cells.cells_fit.Goals as goal

pub returns : goal.returns
unfolding cells_fit
returns c = grind (arith, rest_is, c.cells_below.ensures.says)
