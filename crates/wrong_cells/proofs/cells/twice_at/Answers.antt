-- `wrong_cells::twice_at` meets its contract: the words from the start on, as many as the length says, are the body. Assumes nothing.
use Rattle.wrong_cells.proofs.Finding.{twice_fits}
use Rattle.wrong_cells.proofs.cells.twice_at.Goals as goal

pub overflow_add-result : goal.overflow_add-result
overflow_add-result c = search twice_fits
