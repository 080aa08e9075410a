-- `book::writer::write_contents` meets its contract: the starts follow the first 17 words. Assumes nothing.
use Rattle.book.proofs.Booked.{contents_written}
use Rattle.book.proofs.writer.write_contents.Goals as goal

pub returns : goal.returns
returns c = search contents_written
