-- `book::writer::write_starts` meets its contract. The invariant: the first i starts are written, and the next image stands at `at` (`StartsTo`).
-- Assumes nothing.
use Rattle.book.specs.Writing.{StartsTo}
use Rattle.book.proofs.writer.write_starts.Given as goal

abbrev pub invariant-loop-i : goal.invariant-loop-i
invariant-loop-i l = StartsTo l.p l.row l.initial.out l.i l.at l.out
