-- `wrong_contents::first_record` meets its contract. The invariant: the first i records fit (`RecordsTo`).
-- Assumes nothing.
use mathlib.Core.Bool.{true}
use Rattle.wellformed.proofs.Loops.{RecordsTo}
use Rattle.wrong_contents.proofs.contents.first_record.Given as goal

abbrev pub invariant-loop-i : goal.invariant-loop-i
invariant-loop-i l = RecordsTo l.image l.n true l.i
