-- The head is on no snake passed.
use Rattle.judge.proofs.Judging.{NoStop}
use Rattle.judge.proofs.causes.find_other.Given as goal

abbrev pub invariant-loop-j : goal.invariant-loop-j
invariant-loop-j l = NoStop l.image l.all l.n l.i l.cell l.j
