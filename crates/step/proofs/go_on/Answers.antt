-- `step::go_on` meets its contract: the judged moves are the definition's world, and ready to be applied (`Refusals`).
-- Assumes nothing.
use borrow.Author.Rules.{rules}
use Rattle.step.proofs.Refusals.{judged_ready, step_so}
use Rattle.step.proofs.go_on.Goals as goal

pub apply-requires : goal.apply-requires
apply-requires c = search (rules, judged_ready)

pub returns : goal.returns
returns c = search step_so
