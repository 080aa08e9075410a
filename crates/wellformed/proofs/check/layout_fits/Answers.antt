-- `wellformed::layout_fits` meets its contract: the starts, then the total; with both, each part is where it is due. Assumes nothing.
use Rattle.std.proofs.Common.{◌≡◌, ◌+◌, length, arith, true}
use Rattle.std.proofs.lemmas.Bool.Decides.{nat_tests}
use Rattle.lists.specs.Lists.{every}
use Rattle.rules.specs.Image.{starts_fit, total_fits, food_start, food_count_in}
use Rattle.wellformed.proofs.Checked.{laid_of}
use Rattle.wellformed.proofs.check.layout_fits.Goals as goal

pub parts_fit-requires-clause-laid : goal.parts_fit-requires-clause-laid
parts_fit-requires-clause-laid c =
    let w = c.args.image.now in
    let s : starts_fit w ≡ true = grind arith in
    let t : food_start w + food_count_in w ≡ length w = grind (arith, nat_tests) in
    laid_of w c.requires s t

pub returns-then-found-image : goal.returns-then-found-image
unfolding every total_fits
returns-then-found-image c = grind (arith, nat_tests)

pub returns-else-found-image : goal.returns-else-found-image
unfolding every total_fits
returns-else-found-image c = grind (arith, nat_tests)
