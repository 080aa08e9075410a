-- `agent::legal_in` meets its contract: the image is sound, which bounds each index, and each `return` is one law of `Gates`, by the tests that led there.
-- Assumes nothing.
use Rattle.agent.proofs.Gates.{legal_26, legal_dead, legal_any, legal_due}
use Rattle.agent.proofs.turns.legal_in.Goals as goal

pub returns-then-image-agent : goal.returns-then-image-agent
returns-then-image-agent c = search legal_26

pub returns-then-image-alive_at-ne1 : goal.returns-then-image-alive_at-ne1
returns-then-image-alive_at-ne1 c = search legal_dead

pub returns-then-image-eq0 : goal.returns-then-image-eq0
returns-then-image-eq0 c = search legal_any

pub returns : goal.returns
returns c = search legal_due
