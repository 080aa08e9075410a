-- `strips::nth_in` meets its contract. The invariant: from square `at` on, with `left` still to be passed, the search ends where it is to end (`Passing`); a turn
-- passes a run of marks and a run of clear squares (`Runs`). The measure is how many are still to be passed. Assumes nothing.
use Rattle.strips.proofs.Runs.{passing_none, passing_fits, marks_low, found, clear_low, passing_next, passing_less, passing_end}
use Rattle.strips.proofs.finds.nth_in.Goals as goal

pub loop-at-init : goal.loop-at-init
loop-at-init c = search passing_none

pub overflow_add-marks : goal.overflow_add-marks
overflow_add-marks c = search passing_fits

pub overflow_shr-rest : goal.overflow_shr-rest
overflow_shr-rest c = search marks_low

pub returns-then-left-clear : goal.returns-then-left-clear
returns-then-left-clear c = search found

pub overflow_shr-rest-in-loop-at : goal.overflow_shr-rest-in-loop-at
overflow_shr-rest-in-loop-at c = search clear_low

pub loop-at-smaller : goal.loop-at-smaller
loop-at-smaller c = search passing_less

pub loop-at-preserved : goal.loop-at-preserved
loop-at-preserved c = search passing_next

pub returns : goal.returns
returns c = search passing_end
