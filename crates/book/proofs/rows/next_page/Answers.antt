-- `book::rows::next_page` meets its contract: the page is as long as its contents tell, or all that is left. Assumes nothing.
use Rattle.std.proofs.lemmas.Result.{err_from_is_err_and}
use Rattle.book.proofs.RowLaws.{next_out, next_in}
use Rattle.book.proofs.rows.next_page.Goals as goal

pub returns-in_err-check_page : goal.returns-in_err-check_page
returns-in_err-check_page c =
    let a = c.args in
    let p = err_from_is_err_and c.from_residual.result c.from_residual.ensures.1 in
    rw (p.1, p.2) (next_out a.setting a.rest.now c.told-len.result c.told-len.ensures c.check_page.result c.check_page.ensures _ c.in_err-check_page.was)

pub returns : goal.returns
returns c =
    let a = c.args in
    next_in a.setting a.rest.now c.told-len.result c.told-len.ensures c.check_page.result c.check_page.ensures c.in_ok-check_page.was
