-- Whether one of the snakes passed moved to the same place.
use Rattle.judge.specs.Loops.{Seeking}
use Rattle.judge.specs.Judging.{meets_at}
use Rattle.judge.proofs.causes.cause_of.Given as goal

abbrev pub invariant-loop-j : goal.invariant-loop-j
invariant-loop-j l = Seeking (meets_at l.all l.i l.me.head) l.n l.j l.met
