-- `consequences::Snakes::find_killers` meets its contract: the invariant says that the deaths passed are credited and nobody in the places after them (`Laws`).
-- Assumes nothing.
use Rattle.std.specs.Prelude.{None}
use Rattle.judge.specs.Loops.{Filling}
use Rattle.consequences.specs.After.{killer_in}
use Rattle.consequences.proofs.settled.Snakes.find_killers.Given as goal

abbrev pub invariant-loop-i : goal.invariant-loop-i
invariant-loop-i l = Filling (killer_in l.image l.self.all l.self.count) None l.self.count l.i l.to
