-- `contents::tests::limit_off` meets its contract: the flag and the number after it are those of the book. Assumes nothing.
use Rattle.contents.proofs.Fitting.{limit_off_is}
use Rattle.contents.proofs.tests.limit_off.Goals as goal

pub returns : goal.returns
returns c = search limit_off_is
