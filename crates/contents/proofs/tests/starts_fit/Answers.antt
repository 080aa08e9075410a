-- `contents::tests::starts_fit` meets its contract: each `return` is one law of `Fitting`. Assumes nothing.
use Rattle.contents.proofs.Fitting.{starts_cut, starts_none, starts_late, starts_fall, starts_last}
use Rattle.contents.proofs.tests.starts_fit.Goals as goal

pub returns-then-contents-p : goal.returns-then-contents-p
returns-then-contents-p c = search starts_cut

pub returns-then-p-eq0 : goal.returns-then-p-eq0
returns-then-p-eq0 c = search starts_none

pub returns-then-pair-p : goal.returns-then-pair-p
returns-then-pair-p c = search starts_late

pub returns-then-not-starts_rise : goal.returns-then-not-starts_rise
returns-then-not-starts_rise c = search starts_fall

pub returns : goal.returns
returns c = search starts_last
