-- `book_words::settings::limit_words` meets its contract: the flag, and the number's words, those of 0 where it is unset. Assumes nothing.
use Rattle.book_words.proofs.Laying.{five_is}
use Rattle.book_words.proofs.settings.limit_words.Goals as goal

pub returns : goal.returns
returns c = search five_is
