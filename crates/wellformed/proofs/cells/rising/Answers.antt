-- `wellformed::rising` meets its contract. The invariant: the flag, and the test of what is left above `low`, give the whole answer (`RisingTo`).
-- Assumes nothing.
use Rattle.wellformed.proofs.Loops.{rising_turn, rising_all}
use Rattle.wellformed.proofs.cells.rising.Goals as goal

pub loop-cell-preserved : goal.loop-cell-preserved
loop-cell-preserved c = search rising_turn

pub returns : goal.returns
returns c = search rising_all
