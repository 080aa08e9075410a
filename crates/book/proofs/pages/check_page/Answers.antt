-- `book::pages::check_page` meets its contract: each return is one law of `Paging`, by the tests that led there. Assumes nothing.
use mathlib.Core.Path.{sym, ◌∙◌}
use Rattle.std.proofs.lemmas.Result.{err_from_is_err_and}
use Rattle.book.proofs.Paging.{page_faulty, page_sound, page_21, page_fits}
use Rattle.book.proofs.pages.check_page.Goals as goal

pub returns-in_err-check_image : goal.returns-in_err-check_image
returns-in_err-check_image c =
    let a = c.args in
    let p = err_from_is_err_and c.from_residual.result c.from_residual.ensures.1 in
    rw (p.1, p.2) (page_faulty a.setting a.image.now c.check_image.result c.check_image.ensures _ c.in_err-check_image.was)

pub differs-requires : goal.differs-requires
differs-requires c = page_sound c.args.setting c.args.image.now c.check_image.result c.check_image.ensures c.in_ok-check_image.was

pub returns-then-differs : goal.returns-then-differs
returns-then-differs c =
    let a = c.args in
    page_21 a.setting a.image.now c.check_image.result c.check_image.ensures c.in_ok-check_image.was (sym c.differs.ensures ∙ c.if-differs.true)

pub returns : goal.returns
returns c =
    let a = c.args in
    page_fits a.setting a.image.now c.check_image.result c.check_image.ensures c.in_ok-check_image.was (sym c.differs.ensures ∙ c.if-differs.false)
