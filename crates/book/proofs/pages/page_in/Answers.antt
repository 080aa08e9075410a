-- `book::pages::page_in` meets its contract: what the contents find, then the page's own verdict. Assumes nothing.
use Rattle.std.proofs.lemmas.Result.{err_from_is_err_and}
use Rattle.book.proofs.Paging.{page_none, found_long, found_inside, page_refused, page_part}
use Rattle.book.proofs.pages.page_in.Goals as goal

pub returns-in_err-found : goal.returns-in_err-found
returns-in_err-found c =
    let a = c.args in
    let p = err_from_is_err_and c.from_residual.result c.from_residual.ensures.1 in
    rw (p.1, p.2) (page_none a.book.now a.page c.find.result c.find.ensures _ c.in_err-found.was)

pub setting_in-requires : goal.setting_in-requires
setting_in-requires c = found_long c.args.book.now c.args.page c.find.result c.find.ensures c.in_ok-found.found c.in_ok-found.was

pub cut-requires : goal.cut-requires
cut-requires c = found_inside c.args.book.now c.args.page c.find.result c.find.ensures c.in_ok-found.found c.in_ok-found.was

pub returns-in_err-check_page : goal.returns-in_err-check_page
returns-in_err-check_page c =
    let a = c.args in
    let f = c.in_ok-found in
    let v = c.check_page in
    let r = c.from_residual-in_err-check_page in
    let p = err_from_is_err_and r.result r.ensures.1 in
    rw (p.1, p.2) (page_refused a.book a.page c.find.result c.find.ensures f.found f.was _ c.setting_in.ensures c.cut.result c.cut.ensures v.result v.ensures _ c.in_err-check_page.was)

pub returns : goal.returns
returns c =
    let a = c.args in
    let f = c.in_ok-found in
    let v = c.check_page in
    page_part a.book a.page c.find.result c.find.ensures f.found f.was _ c.setting_in.ensures c.cut.result c.cut.ensures v.result v.ensures c.in_ok-check_page.was
