-- `book_words::words::write_pair` meets its contract: the low word, then the high one. Assumes nothing.
use Rattle.book_words.proofs.Laying.{pair_is}
use Rattle.book_words.proofs.words.write_pair.Goals as goal

pub returns : goal.returns
returns c = search pair_is
