-- The first i snakes are noted (`Noted` in `Behind`).
use Rattle.standing.proofs.Behind.{Noted}
use Rattle.standing.proofs.moves.behind_after.Given as goal

abbrev pub invariant-loop-i : goal.invariant-loop-i
invariant-loop-i l = Noted l.events l.i l.behind
