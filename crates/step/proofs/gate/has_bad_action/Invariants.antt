-- `step::has_bad_action` meets its contract: the invariant says whether a snake passed has a bad action (`Refusals`).
-- Assumes nothing.
use lib.ListN.{length}
use Rattle.judge.specs.Loops.{Seeking}
use Rattle.step.specs.Asked.{bad_at}
use Rattle.step.proofs.gate.has_bad_action.Given as goal

abbrev pub invariant-loop-i : goal.invariant-loop-i
invariant-loop-i l = Seeking (bad_at l.image l.actions) (length l.actions) l.i l.bad
