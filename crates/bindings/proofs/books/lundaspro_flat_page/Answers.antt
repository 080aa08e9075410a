-- `bindings::lundaspro_flat_page` meets its contract: each case of the answer (`Saying`). Assumes nothing.
use Rattle.bindings.proofs.Saying.{page_told, page_refused}
use Rattle.bindings.proofs.books.lundaspro_flat_page.Goals as goal

pub returns-in-Ok : goal.returns-in-Ok
returns-in-Ok c = search page_told

pub returns-in-Err : goal.returns-in-Err
returns-in-Err c = search page_refused
