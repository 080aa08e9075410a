use Rattle.judge.proofs.Judging.{hit_fits, other_here, other_on, other_none}
use Rattle.judge.proofs.causes.find_other.Goals as goal

pub hit_at-requires : goal.hit_at-requires
hit_at-requires c = search hit_fits

pub returns-in-Some : goal.returns-in-Some
returns-in-Some c = search other_here

pub loop-j-preserved : goal.loop-j-preserved
loop-j-preserved c = search other_on

pub returns : goal.returns
returns c = search other_none
