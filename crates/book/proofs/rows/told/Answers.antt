-- `book::rows::told` meets its contract: contents that are cut short tell all words, others the sum of their parts, as far as there are words.
-- Assumes nothing.
use Rattle.book.proofs.RowLaws.{told_five, told_short, told_is}
use Rattle.book.proofs.rows.told.Goals as goal

pub returns-then-words-lt5 : goal.returns-then-words-lt5
returns-then-words-lt5 c = search told_five

pub returns-then-words-n : goal.returns-then-words-n
returns-then-words-n c = search told_short

pub returns : goal.returns
returns c = search told_is
