use Rattle.judge.proofs.Loops.{seek_none}
use Rattle.judge.proofs.Judging.{meets_next, cause_stays, cause_meets, cause_wall, cause_clear, cause_body}
use Rattle.judge.proofs.causes.cause_of.Goals as goal

pub returns-then-not-me : goal.returns-then-not-me
returns-then-not-me c = search cause_stays

pub loop-j-init : goal.loop-j-init
loop-j-init c = search seek_none

pub loop-j-preserved : goal.loop-j-preserved
loop-j-preserved c = search meets_next

pub returns-then-met : goal.returns-then-met
returns-then-met c = search cause_meets

pub returns-then-not-me-2 : goal.returns-then-not-me-2
returns-then-not-me-2 c = search cause_wall

pub returns-then-not-holds : goal.returns-then-not-holds
returns-then-not-holds c = search cause_clear

pub returns : goal.returns
returns c = search cause_body
