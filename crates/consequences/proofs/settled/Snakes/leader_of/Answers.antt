-- `consequences::Snakes::leader_of` meets its contract: each return is the one of the two that live who leads, or nobody (`Leading`).
-- Assumes nothing.
use Rattle.consequences.proofs.Leading.{leads_first, leads_second, leads_neither}
use Rattle.consequences.proofs.settled.Snakes.leader_of.Goals as goal

pub returns-then-is_longer : goal.returns-then-is_longer
returns-then-is_longer c = search leads_first

pub returns-then-is_longer-2 : goal.returns-then-is_longer-2
returns-then-is_longer-2 c = search leads_second

pub returns : goal.returns
returns c = search leads_neither
