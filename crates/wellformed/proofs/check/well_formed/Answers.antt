-- `wellformed::well_formed` meets its contract: each test that holds gives the facts that the next one requires. Assumes nothing.
use Rattle.std.proofs.Common.{◌≡◌, arith, true}
use Rattle.lists.specs.Lists.{every}
use Rattle.rules.specs.Image.{long_enough, ranges_fit, well_formed}
use Rattle.wellformed.proofs.Checked.{long_of, ranged_of}
use Rattle.wellformed.proofs.check.well_formed.Goals as goal

pub ranges_fit-requires : goal.ranges_fit-requires
ranges_fit-requires c = let t : long_enough c.args.image.now ≡ true = grind arith in search long_of

pub layout_fits-requires : goal.layout_fits-requires
layout_fits-requires c =
    let w = c.args.image.now in
    let t : long_enough w ≡ true = grind arith in
    let r : ranges_fit w ≡ true = grind arith in
    ranged_of w (long_of w t) r

pub returns-then-ranges_fit : goal.returns-then-ranges_fit
unfolding every well_formed
returns-then-ranges_fit c = record { answer = grind arith }

pub returns-else-ranges_fit : goal.returns-else-ranges_fit
unfolding every well_formed
returns-else-ranges_fit c = record { answer = grind arith }
