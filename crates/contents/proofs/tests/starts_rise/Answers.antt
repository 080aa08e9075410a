-- `contents::tests::starts_rise` meets its contract: the laws of the invariant, at the start, after a turn and at the end. Assumes nothing.
use Rattle.contents.proofs.Fitting.{rise_none, rise_next, rise_all}
use Rattle.contents.proofs.tests.starts_rise.Goals as goal

pub loop-i-init : goal.loop-i-init
loop-i-init c = search rise_none

pub loop-i-preserved : goal.loop-i-preserved
loop-i-preserved c = search rise_next

pub returns : goal.returns
returns c = search rise_all
