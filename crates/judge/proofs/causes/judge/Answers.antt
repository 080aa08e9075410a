use Rattle.judge.proofs.Judging.{judging_at, causes_none, causes_next, judges}
use Rattle.judge.proofs.causes.judge.Goals as goal

pub loop-i-init : goal.loop-i-init
loop-i-init c = search causes_none

pub cause_of-requires : goal.cause_of-requires
cause_of-requires c = search judging_at

pub loop-i-preserved : goal.loop-i-preserved
loop-i-preserved c = search causes_next

pub returns : goal.returns
returns c = search judges
