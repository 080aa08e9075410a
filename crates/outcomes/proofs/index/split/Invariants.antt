-- `outcomes::split` meets its contract. The invariant: the digits from j on are written, and what is left of the index has the others (`Splitting`).
-- Assumes nothing.
use Rattle.outcomes.proofs.Radix.{Splitting}
use Rattle.outcomes.proofs.index.split.Given as goal

abbrev pub invariant-loop-j : goal.invariant-loop-j
invariant-loop-j l = Splitting l.initial.list l.n l.index l.list l.rest l.j
