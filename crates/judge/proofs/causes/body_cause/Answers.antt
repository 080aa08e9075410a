use Rattle.judge.proofs.Judging.{body_own, body_other, body_clear}
use Rattle.judge.proofs.causes.body_cause.Goals as goal

pub returns-then-is_some : goal.returns-then-is_some
returns-then-is_some c = search body_own

pub returns-then-is_some-2 : goal.returns-then-is_some-2
returns-then-is_some-2 c = search body_other

pub returns : goal.returns
returns c = search body_clear
