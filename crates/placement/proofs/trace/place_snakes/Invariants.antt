use Rattle.placement.proofs.Laying.{Laying}
use Rattle.placement.proofs.trace.place_snakes.Given as goal

abbrev pub invariant-loop-i : goal.invariant-loop-i
invariant-loop-i l = Laying l.g l.n l.size l.initial.cells l.cells l.at l.i
