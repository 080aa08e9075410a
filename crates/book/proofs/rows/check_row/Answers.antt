-- `book::rows::check_row` meets its contract: the laws of the invariant, at the start, at a refused page, after a turn and at the end. Assumes nothing.
use borrow.Author.Rules.{rules}
use Rattle.std.proofs.lemmas.Result.{err_from_is_err_and}
use Rattle.book.proofs.RowLaws.{passed_none, passed_fits, passed_next, row_stops, row_left, row_done}
use Rattle.book.proofs.rows.check_row.Goals as goal

pub loop-page-init : goal.loop-page-init
loop-page-init c = search passed_none

pub returns-in_err-last : goal.returns-in_err-last
returns-in_err-last c =
    let a = c.args in
    let l = c.loop-page in
    let p = err_from_is_err_and c.from_residual.result c.from_residual.ensures.1 in
    rw (p.1, p.2) (row_stops a.setting a.row.now a.p l._page l.at l.last l.invariant c.next_page.result c.next_page.ensures _ c.in_err-last.was c.loop-page-test.true)

pub overflow_add-at : goal.overflow_add-at
overflow_add-at c =
    let a = c.args in
    let l = c.loop-page in
    passed_fits a.setting a.row.now a.p l._page l.at l.last l.invariant c.next_page.result c.next_page.ensures c.in_ok-last.last c.in_ok-last.was (search rules)

pub loop-page-preserved : goal.loop-page-preserved
loop-page-preserved c =
    let a = c.args in
    let l = c.loop-page in
    passed_next a.setting a.row.now a.p l._page l.at l.last l.invariant c.next_page.result c.next_page.ensures c.in_ok-last.last c.in_ok-last.was c.loop-page-test.true

pub returns-then-at-row : goal.returns-then-at-row
returns-then-at-row c = search row_left

pub returns : goal.returns
returns c = search row_done
