-- `contents::tests::starts_rise` meets its contract. The invariant: the flag tells of the first i starts (`Rising`). Assumes nothing.
use Rattle.contents.specs.Read.{Rising}
use Rattle.contents.proofs.tests.starts_rise.Given as goal

abbrev pub invariant-loop-i : goal.invariant-loop-i
invariant-loop-i l = Rising l.contents l.n l.i l.all
