-- `standing::mark_all` meets its contract. The invariant: the first i events are marked (`Marked` in `Showing`). Assumes nothing.
use Rattle.std.proofs.Common.{rules}
use Rattle.standing.proofs.Showing.{marked_none, marked_next}
use Rattle.standing.proofs.moves.mark_all.Goals as goal

pub loop-i-init : goal.loop-i-init
loop-i-init c = search marked_none

pub loop-i-preserved : goal.loop-i-preserved
loop-i-preserved c = search (rules, marked_next)
