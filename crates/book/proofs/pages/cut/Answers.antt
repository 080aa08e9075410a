-- `book::pages::cut` meets its contract: the part's words, at its own place in the book. Assumes nothing.
use mathlib.Core.Path.{refl}
use Rattle.lists.proofs.Lists.{part_is}
use Rattle.book.proofs.pages.cut.Goals as goal

pub returns : goal.returns
returns c = let a = c.args in record { words = part_is a.book.now a.start a.len; place = refl }
