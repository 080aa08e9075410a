-- `wrong_contents::cut_short` meets its contract: fewer than five words, or fewer than the records ask for. Assumes nothing.
use Rattle.std.proofs.Common.{arith}
use Rattle.std.proofs.lemmas.Bool.Decides.{nat_tests}
use Rattle.rules.specs.Faults.{cut_short}
use Rattle.wrong_contents.proofs.contents.cut_short.Goals as goal

pub returns-then-image-lt5 : goal.returns-then-image-lt5
unfolding cut_short
returns-then-image-lt5 c = grind (arith, nat_tests)

pub returns : goal.returns
unfolding cut_short
returns c = grind (arith, nat_tests)
