-- `wellformed::records_fit` meets its contract. The invariant: the flag tells of the first i records (`RecordsTo`).
-- Assumes nothing.
use Rattle.wellformed.proofs.Loops.{RecordsTo}
use Rattle.wellformed.proofs.contents.records_fit.Given as goal

abbrev pub invariant-loop-i : goal.invariant-loop-i
invariant-loop-i l = RecordsTo l.image l.n l.fit l.i
