-- `book::writer::write_book` meets its contract: 29, or the contents and then the row, which is the pages one after the other. Assumes nothing.
use Rattle.book.proofs.Booked.{writes_29, writes_done}
use Rattle.book.proofs.writer.write_book.Goals as goal

pub returns-then-out-words : goal.returns-then-out-words
returns-then-out-words c = search writes_29

pub returns : goal.returns
returns c = search writes_done
