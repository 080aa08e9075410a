-- The first i events are marked (`Marked` in `Showing`).
use Rattle.standing.proofs.Showing.{Marked}
use Rattle.standing.proofs.moves.mark_all.Given as goal

abbrev pub invariant-loop-i : goal.invariant-loop-i
invariant-loop-i l = Marked l.image l.fn.events l.n l.i l.out
