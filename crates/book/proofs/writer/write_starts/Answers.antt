-- `book::writer::write_starts` meets its contract: the laws of the invariant, at the start, after a turn and at the end. Assumes nothing.
use Rattle.book.proofs.Laying.{starts_open, starts_more, starts_shut}
use Rattle.book.proofs.writer.write_starts.Goals as goal

pub loop-i-init : goal.loop-i-init
loop-i-init c = search starts_open

pub loop-i-preserved : goal.loop-i-preserved
loop-i-preserved c = search starts_more

pub returns : goal.returns
returns c = search starts_shut
