-- `strips::nth_in` meets its contract. The invariant: from square `at` on, with `left` still to be passed, the search ends where it is to end (`Passing`); a turn
-- passes a run of marks and a run of clear squares (`Runs`). The measure is how many are still to be passed. Assumes nothing.
use Rattle.strips.proofs.Runs.{Passing}
use Rattle.strips.proofs.finds.nth_in.Given as goal

abbrev pub invariant-loop-at : goal.invariant-loop-at
invariant-loop-at l = Passing l.strip l.first l.i l.rest l.at l.left

abbrev pub decreases-loop-at : goal.decreases-loop-at
decreases-loop-at l = l.left
