-- `wrong_contents::record_out` meets its contract: the length's own tests, the heading's, and else the flag. Assumes nothing.
use Rattle.std.proofs.Common.{arith}
use Rattle.std.proofs.lemmas.Bool.Decides.{nat_tests}
use Rattle.rules.specs.Faults.{record_out}
use Rattle.wrong_contents.proofs.contents.record_out.Goals as goal

pub returns-then-area-len : goal.returns-then-area-len
unfolding record_out
returns-then-area-len c = grind (arith, nat_tests)

pub returns-then-image-heading_at-gt3 : goal.returns-then-image-heading_at-gt3
unfolding record_out
returns-then-image-heading_at-gt3 c = grind (arith, nat_tests)

pub returns : goal.returns
unfolding record_out
returns c = grind (arith, nat_tests)
