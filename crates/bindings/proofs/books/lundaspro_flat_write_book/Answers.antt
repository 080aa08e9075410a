-- `bindings::lundaspro_flat_write_book` meets its contract: the writer's words, and how many; a refusal tells nothing (`Saying`). Assumes nothing.
use Rattle.bindings.proofs.Saying.{book_told}
use Rattle.bindings.proofs.books.lundaspro_flat_write_book.Goals as goal

pub returns : goal.returns
returns c = search book_told
