-- `wellformed::laid_out` meets its contract. The invariant: `due` is where snake i is due, and the flag tells of the starts before it (`AddsTo`).
-- Assumes nothing.
use Rattle.wellformed.proofs.Loops.{adds_none, adds_fits, adds_next, adds_all}
use Rattle.wellformed.proofs.contents.laid_out.Goals as goal

pub loop-i-init : goal.loop-i-init
loop-i-init c = search adds_none

pub overflow_add-due : goal.overflow_add-due
overflow_add-due c = search adds_fits

pub loop-i-preserved : goal.loop-i-preserved
loop-i-preserved c = search adds_next

pub returns : goal.returns
returns c = search adds_all
