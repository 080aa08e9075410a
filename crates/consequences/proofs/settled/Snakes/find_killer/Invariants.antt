-- `consequences::Snakes::find_killer` meets its contract: the invariant says that none of the snakes passed holds the cell (`Laws`).
-- Assumes nothing.
use Rattle.consequences.proofs.Laws.{NoHolder}
use Rattle.consequences.proofs.settled.Snakes.find_killer.Given as goal

abbrev pub invariant-loop-j : goal.invariant-loop-j
invariant-loop-j l = NoHolder l.image l.self.all l.self.count l.cell l.j
