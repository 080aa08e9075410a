-- `wellformed::long_enough` meets its contract: fewer than five words, or the records fit. Assumes nothing.
use Rattle.std.proofs.Common.{arith}
use Rattle.std.proofs.lemmas.Bool.Decides.{nat_tests}
use Rattle.rules.specs.Image.{long_enough}
use Rattle.wellformed.proofs.contents.long_enough.Goals as goal

pub returns-then-image-ge5 : goal.returns-then-image-ge5
unfolding long_enough
returns-then-image-ge5 c = grind (arith, nat_tests)

pub returns-else-image-ge5 : goal.returns-else-image-ge5
unfolding long_enough
returns-else-image-ge5 c = grind (arith, nat_tests)
