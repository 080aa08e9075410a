-- `consequences::Snakes::count_all` meets its contract: the invariant has the counts of the snakes passed, and that they are small (`Laws`).
-- Assumes nothing.
use Rattle.consequences.specs.After.{Counting}
use Rattle.consequences.proofs.settled.Snakes.count_all.Given as goal

abbrev pub invariant-loop-a : goal.invariant-loop-a
invariant-loop-a l = Counting l.self.all l.self.count l.a-index l.alive l.deaths l.cells
