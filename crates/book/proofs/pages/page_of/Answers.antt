-- `book::pages::page_of` meets its contract: the page that `page_in` found lies inside the book, and where none was found the part is empty.
-- Assumes nothing.
use Rattle.book.proofs.Paging.{read_inside}
use Rattle.book.proofs.pages.page_of.Goals as goal

pub cut-requires : goal.cut-requires
cut-requires c = search read_inside
