-- `book::rows::check_row` meets its contract. The invariant: the first i pages have passed, the last of them has `last` words, and the next starts at `at`
-- (`Passed`). Assumes nothing.
use Rattle.book.specs.Writing.{Passed}
use Rattle.book.proofs.rows.check_row.Given as goal

abbrev pub invariant-loop-page : goal.invariant-loop-page
invariant-loop-page l = Passed l.setting l.row l.p l._page l.at l.last
