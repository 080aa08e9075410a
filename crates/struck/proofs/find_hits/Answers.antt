use Rattle.struck.proofs.Hitting.{hit_judging, cause_handed, hits_none, hits_next, hits_all}
use Rattle.struck.proofs.find_hits.Goals as goal

pub loop-i-init : goal.loop-i-init
loop-i-init c = search hits_none

pub hit_of-requires : goal.hit_of-requires
hit_of-requires c = record { judging = search hit_judging; cause_value = search cause_handed }

pub loop-i-preserved : goal.loop-i-preserved
loop-i-preserved c = search hits_next

pub returns : goal.returns
returns c = search hits_all
