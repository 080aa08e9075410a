-- `consequences::Snakes::find_living` meets its contract: the invariant says that none of the snakes passed lives (`Leading`).
-- Assumes nothing.
use Rattle.consequences.specs.Leads.{NoneLiving}
use Rattle.consequences.proofs.settled.Snakes.find_living.Given as goal

abbrev pub invariant-loop-i : goal.invariant-loop-i
invariant-loop-i l = NoneLiving l.self.all l.self.count l.from l.i
