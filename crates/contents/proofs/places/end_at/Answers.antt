-- `contents::places::end_at` meets its contract: the next start where there is one, which is above this one, or the book's end. Assumes nothing.
use Rattle.contents.proofs.Finding.{ends_next, ends_last}
use Rattle.contents.proofs.places.end_at.Goals as goal

pub returns-then-i-word : goal.returns-then-i-word
returns-then-i-word c = search ends_next

pub returns : goal.returns
returns c = search ends_last
