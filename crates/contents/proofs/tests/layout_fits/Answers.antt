-- `contents::tests::layout_fits` meets its contract: each `return` is one law of `Fitting`, by the row that holds, or by all that do not. Assumes nothing.
use Rattle.contents.proofs.Fitting.{layout_first, layout_last, layout_lead, layout_ticks, layout_all}
use Rattle.contents.proofs.tests.layout_fits.Goals as goal

pub returns-then-word-ne1 : goal.returns-then-word-ne1
returns-then-word-ne1 c = search layout_first

pub returns-then-word-gt1 : goal.returns-then-word-gt1
returns-then-word-gt1 c = search layout_last

pub returns-then-limit_off : goal.returns-then-limit_off
returns-then-limit_off c = search layout_lead

pub returns-then-limit_off-2 : goal.returns-then-limit_off-2
returns-then-limit_off-2 c = search layout_ticks

pub returns : goal.returns
returns c = search layout_all
