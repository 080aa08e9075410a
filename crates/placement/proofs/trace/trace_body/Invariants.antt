use Rattle.placement.proofs.Going.{Going}
use Rattle.placement.proofs.trace.trace_body.Given as goal

abbrev pub invariant-loop-k : goal.invariant-loop-k
invariant-loop-k l = Going l.g l.even l.size l.initial.walk.place l.fn.cells l.at l.cells l.walk.place l.walk.turn l.k
