-- `book_words::settings::limit_at` meets its contract: the flag's word and the number's four words are those of the book. Assumes nothing.
use Rattle.book_words.proofs.Told.{limit_read}
use Rattle.book_words.proofs.settings.limit_at.Goals as goal

pub returns : goal.returns
returns c = search limit_read
