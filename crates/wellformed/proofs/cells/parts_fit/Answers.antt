-- `wellformed::parts_fit` meets its contract: cells below g² have a square of the board, which the bodies' tests ask. Assumes nothing.
use Rattle.std.proofs.Common.{◌≡◌, arith, true}
use Rattle.lists.specs.Lists.{every}
use Rattle.lists.proofs.Lists.{rest_is}
use Rattle.rules.specs.Image.{cells_fit, food_fits}
use Rattle.wellformed.proofs.Checked.{board_of}
use Rattle.wellformed.proofs.cells.parts_fit.Goals as goal

pub bodies_fit-requires : goal.bodies_fit-requires
bodies_fit-requires c = let t : cells_fit c.args.image.now ≡ true = grind arith in search board_of

pub returns-then-bodies_fit : goal.returns-then-bodies_fit
unfolding every food_fits
returns-then-bodies_fit c = grind (arith, rest_is)

pub returns-else-bodies_fit : goal.returns-else-bodies_fit
unfolding every
returns-else-bodies_fit c = grind arith
