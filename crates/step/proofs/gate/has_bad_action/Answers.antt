-- `step::has_bad_action` meets its contract: the invariant says whether a snake passed has a bad action (`Refusals`).
-- Assumes nothing.
use borrow.Author.Rules.{rules}
use Rattle.judge.proofs.Loops.{seek_none}
use Rattle.step.proofs.Refusals.{bad_next, bad_all}
use Rattle.step.proofs.gate.has_bad_action.Goals as goal

pub loop-i-init : goal.loop-i-init
loop-i-init c = search seek_none

pub loop-i-preserved : goal.loop-i-preserved
loop-i-preserved c = search (rules, bad_next)

pub returns : goal.returns
returns c = search (rules, bad_all)
