-- `strips::count_strips` meets its contract. The invariant: the first s strips have their counts (`Tallying`). Assumes nothing.
use Rattle.strips.proofs.Counting.{Tallying}
use Rattle.strips.proofs.counts.count_strips.Given as goal

abbrev pub invariant-loop-s : goal.invariant-loop-s
invariant-loop-s l = Tallying l.strips l.area l.tally l.s
