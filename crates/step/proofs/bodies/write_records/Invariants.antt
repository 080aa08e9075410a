-- `step::write_records` meets its contract: the invariant says that the records of the snakes passed are written, and where the next body starts (`Turns`).
-- Assumes nothing.
use Rattle.step.specs.Next.{RecordsTo}
use Rattle.step.proofs.bodies.write_records.Given as goal

abbrev pub invariant-loop-i : goal.invariant-loop-i
invariant-loop-i l = RecordsTo l.initial.out l.snakes.all l.snakes.count l.i l.out l.start
