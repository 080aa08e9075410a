-- `step::asked_in` meets its contract: each return is the table's row by the tests made so far (`Refusals`).
-- Assumes nothing.
use Rattle.step.proofs.Refusals.{asked_21, asked_22, asked_24, asked_25, asked_none}
use Rattle.step.proofs.gate.asked_in.Goals as goal

pub returns-then-differs : goal.returns-then-differs
returns-then-differs c = search asked_21

pub returns-then-image-gt0 : goal.returns-then-image-gt0
returns-then-image-gt0 c = search asked_22

pub returns-then-actions-image : goal.returns-then-actions-image
returns-then-actions-image c = search asked_24

pub returns-then-has_bad_action : goal.returns-then-has_bad_action
returns-then-has_bad_action c = search asked_25

pub returns : goal.returns
returns c = search asked_none
