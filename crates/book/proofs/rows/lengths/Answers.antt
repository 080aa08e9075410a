-- `book::rows::lengths` meets its contract: the laws of the invariant, at the start, after a turn and at the end. Assumes nothing.
use Rattle.book.proofs.RowLaws.{sum_start, sum_more, sum_all}
use Rattle.book.proofs.rows.lengths.Goals as goal

pub loop-i-init : goal.loop-i-init
loop-i-init c = search sum_start

pub loop-i-preserved : goal.loop-i-preserved
loop-i-preserved c = search sum_more

pub returns : goal.returns
returns c = search sum_all
