use Rattle.judge.proofs.Judging.{own_in}
use Rattle.struck.proofs.Hitting.{own_none, own_fits, own_at_lem}
use Rattle.struck.proofs.own_hit.Goals as goal

pub find_rest-requires : goal.find_rest-requires
find_rest-requires c = search own_in

pub returns-in_err-k : goal.returns-in_err-k
returns-in_err-k c = rw c.from_residual.ensures (own_none _ _ _ _ c.find_rest.ensures c.in_err-k.was)

pub hit_at-requires : goal.hit_at-requires
hit_at-requires c = own_fits _ _ _ _ c.find_rest.ensures _ c.in_ok-k.was _ c.requires

pub returns : goal.returns
returns c = own_at_lem _ _ _ _ c.find_rest.ensures _ c.in_ok-k.was _ c.hit_at.ensures
