-- `book::writer::write` meets its contract: a verdict refuses, and where it accepts its rows are facts. Assumes nothing.
use Rattle.std.proofs.lemmas.Result.{err_from_is_err_and}
use Rattle.book.proofs.Booked.{none_asked, none_wordy, none_fits, writes_refused}
use Rattle.book.proofs.writer.write.Goals as goal

pub returns-in_err-asked : goal.returns-in_err-asked
returns-in_err-asked c =
    let a = c.args in
    let p = err_from_is_err_and c.from_residual.result c.from_residual.ensures.1 in
    rw (p.1, p.2) (writes_refused a.setting a.pages a.row.now a.out.now c.asked.result c.asked.ensures _ c.in_err-asked.was)

pub write_book-requires-clause-asked_none : goal.write_book-requires-clause-asked_none
write_book-requires-clause-asked_none c = none_asked c.args.setting c.args.pages c.args.row.now c.asked.result c.asked.ensures c.in_ok-asked.was

pub write_book-requires-clause-wordy : goal.write_book-requires-clause-wordy
write_book-requires-clause-wordy c = none_wordy c.args.setting c.args.pages c.args.row.now c.asked.result c.asked.ensures c.in_ok-asked.was

pub write_book-requires-clause-row_fits : goal.write_book-requires-clause-row_fits
write_book-requires-clause-row_fits c = none_fits c.args.setting c.args.pages c.args.row.now c.asked.result c.asked.ensures c.in_ok-asked.was
