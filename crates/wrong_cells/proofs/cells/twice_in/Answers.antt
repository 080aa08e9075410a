-- `wrong_cells::twice_in` meets its contract. The invariant: no cell before k stood earlier in the body (`Twice`).
-- Assumes nothing.
use Rattle.wrong_cells.proofs.Finding.{once_none, once_here, once_on, once_all}
use Rattle.wrong_cells.proofs.cells.twice_in.Goals as goal

pub loop-k-init : goal.loop-k-init
loop-k-init c = search once_none

pub returns-then-is_some : goal.returns-then-is_some
returns-then-is_some c = search once_here

pub loop-k-preserved : goal.loop-k-preserved
loop-k-preserved c = search once_on

pub returns : goal.returns
returns c = search once_all
