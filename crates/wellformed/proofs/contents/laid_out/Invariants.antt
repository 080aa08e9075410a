-- `wellformed::laid_out` meets its contract. The invariant: `due` is where snake i is due, and the flag tells of the starts before it (`AddsTo`).
-- Assumes nothing.
use Rattle.wellformed.proofs.Loops.{AddsTo}
use Rattle.wellformed.proofs.contents.laid_out.Given as goal

abbrev pub invariant-loop-i : goal.invariant-loop-i
invariant-loop-i l = AddsTo l.image l.due l.fits l.i
