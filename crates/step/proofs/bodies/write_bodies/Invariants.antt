-- `step::write_bodies` meets its contract: the invariant says that the bodies of the snakes passed are written, and which index comes after them (`Turns`).
-- Assumes nothing.
use Rattle.step.specs.Next.{BodiesTo}
use Rattle.step.proofs.bodies.write_bodies.Given as goal

abbrev pub invariant-loop-i : goal.invariant-loop-i
invariant-loop-i l = BodiesTo l.initial.out l.from l.image l.snakes.all l.snakes.count l.i l.out l.at
