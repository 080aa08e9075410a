-- `consequences::settle_all` meets its contract: the invariant says that the snakes passed are settled and the places after them blank (`Laws`).
-- Assumes nothing.
use Rattle.judge.specs.Loops.{Filling}
use Rattle.consequences.specs.After.{settled_at, gone}
use Rattle.consequences.proofs.after.settle_all.Given as goal

abbrev pub invariant-loop-i : goal.invariant-loop-i
invariant-loop-i l = Filling (settled_at l.judged.moves l.judged.causes) gone l.n l.i l.all
