-- `strips::take` meets its contract: the strip of a free square has one less, the others as many as before (`took`). Assumes nothing.
use borrow.Author.Rules.{rules}
use Rattle.strips.proofs.Finding.{take_some, took}
use Rattle.strips.proofs.finds.take.Goals as goal

pub overflow_sub-tally : goal.overflow_sub-tally
overflow_sub-tally c = search (rules, take_some)

pub returns : goal.returns
returns c = search took
