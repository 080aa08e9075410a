-- `cells::write_left` meets its contract. The invariant: those left of the apples so far are written, and `at` is the index after them (`LeftTo`).
-- Assumes nothing.
use Rattle.cells.proofs.Left.{LeftTo}
use Rattle.cells.proofs.eaten.write_left.Given as goal

abbrev pub invariant-loop-x : goal.invariant-loop-x
invariant-loop-x l = LeftTo l.eaten l.food l.initial.out l.from l.out l.at l.x-index
