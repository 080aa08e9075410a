-- `consequences::Snakes::find_leader` meets its contract: without a lead, or unless two live, nobody leads; else the two are found and compared (`Leading`).
-- Assumes nothing.
use Rattle.consequences.proofs.Leading.{leader_unset, leader_alone, leader_two, some_first, some_second, next_in_lem, two_live}
use Rattle.consequences.proofs.settled.Snakes.find_leader.Goals as goal

pub returns-in_err-k : goal.returns-in_err-k
returns-in_err-k c = rw c.from_residual.ensures (leader_unset _ _ _ _ c.in_err-k.was)

pub returns-then-alive-ne2 : goal.returns-then-alive-ne2
returns-then-alive-ne2 c = leader_alone _ _ _ _ _ c.in_ok-k.was c.if-alive-ne2.true

pub returns-in_err-i : goal.returns-in_err-i
returns-in_err-i c = absurd (some_first _ _ _ c.requires c.if-alive-ne2.false c.in_err-i.ensures)

pub find_living-requires-2 : goal.find_living-requires-2
find_living-requires-2 c = next_in_lem _ _ _ c.requires c.if-alive-ne2.false _ c.in_ok-i.ensures

pub returns-in_err-j : goal.returns-in_err-j
returns-in_err-j c = absurd (some_second _ _ _ c.requires c.if-alive-ne2.false _ c.in_ok-i.ensures c.in_err-j.ensures)

pub leader_of-requires : goal.leader_of-requires
leader_of-requires c = two_live _ _ _ c.requires c.if-alive-ne2.false _ c.in_ok-i.ensures _ c.in_ok-j.ensures

pub returns : goal.returns
returns c = leader_two _ _ _ _ _ c.in_ok-k.was c.if-alive-ne2.false _ c.leader_of.ensures
