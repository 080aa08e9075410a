-- `wrong_cells::first_fall` meets its contract. The invariant: each word of the food up to k is above the one before it (`Falls`).
-- Assumes nothing.
use Rattle.wrong_cells.proofs.Finding.{falls_from, falls_here, falls_on, falls_none}
use Rattle.wrong_cells.proofs.cells.first_fall.Goals as goal

pub loop-k-init : goal.loop-k-init
loop-k-init c = search falls_from

pub returns-then-image-k : goal.returns-then-image-k
returns-then-image-k c = search falls_here

pub loop-k-preserved : goal.loop-k-preserved
loop-k-preserved c = search falls_on

pub returns : goal.returns
returns c = search falls_none
