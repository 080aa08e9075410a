-- `wrong_contents::contents_out` meets its contract: its tests are those of the definition, in their order. Assumes nothing.
use Rattle.std.proofs.Common.{arith}
use Rattle.std.proofs.lemmas.Bool.Decides.{nat_tests}
use Rattle.rules.specs.Faults.{contents_out}
use Rattle.wrong_contents.proofs.contents.contents_out.Goals as goal

pub returns-then-not-n : goal.returns-then-not-n
unfolding contents_out
returns-then-not-n c = grind (arith, nat_tests)

pub returns-then-not-g : goal.returns-then-not-g
unfolding contents_out
returns-then-not-g c = grind (arith, nat_tests)

pub returns-then-image-gt1024 : goal.returns-then-image-gt1024
unfolding contents_out
returns-then-image-gt1024 c = grind (arith, nat_tests)

pub returns-then-image-gt1 : goal.returns-then-image-gt1
unfolding contents_out
returns-then-image-gt1 c = grind (arith, nat_tests)

pub returns : goal.returns
unfolding contents_out
returns c = grind (arith, nat_tests)
