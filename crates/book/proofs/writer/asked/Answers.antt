-- `book::writer::asked` meets its contract: the verdict on the setting, 42, or the row's. Assumes nothing.
use Rattle.std.proofs.lemmas.Result.{err_from_is_err_and}
use Rattle.book.proofs.Booked.{asked_setting, asked_42, asked_row}
use Rattle.book.proofs.writer.asked.Goals as goal

pub returns-in_err-validate : goal.returns-in_err-validate
returns-in_err-validate c =
    let a = c.args in
    let p = err_from_is_err_and c.from_residual.result c.from_residual.ensures.1 in
    rw (p.1, p.2) (asked_setting a.setting a.pages a.row.now c.validate.result c.validate.ensures _ c.in_err-validate.was)

pub returns-then-pages-gt65535 : goal.returns-then-pages-gt65535
returns-then-pages-gt65535 c =
    let a = c.args in
    asked_42 a.setting a.pages a.row.now c.validate.result c.validate.ensures c.in_ok-validate.was c.if-pages-gt65535.true

pub returns : goal.returns
returns c =
    let a = c.args in
    asked_row a.setting a.pages a.row.now c.validate.result c.validate.ensures c.in_ok-validate.was c.if-pages-gt65535.false c.check_row.result c.check_row.ensures
