-- `book::rows::lengths` meets its contract. The invariant: the first i lengths are added up (`Summed`). Assumes nothing.
use Rattle.book.specs.Writing.{Summed}
use Rattle.book.proofs.rows.lengths.Given as goal

abbrev pub invariant-loop-i : goal.invariant-loop-i
invariant-loop-i l = Summed l.words l.n l.i l.sum
