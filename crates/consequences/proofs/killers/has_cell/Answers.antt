-- `consequences::has_cell` meets its contract: the dead hold nothing; a survivor has its head's cell and the rest (`Laws`).
-- Assumes nothing.
use Rattle.consequences.proofs.Laws.{cell_held}
use Rattle.consequences.proofs.killers.has_cell.Goals as goal

pub returns : goal.returns
returns c = search cell_held
