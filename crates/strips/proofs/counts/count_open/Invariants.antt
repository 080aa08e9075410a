-- `strips::count_open` meets its contract. The invariant: so many squares of the strips that are passed have no mark (`Counting`). Assumes nothing.
use Rattle.strips.proofs.Counting.{Counting}
use Rattle.strips.proofs.counts.count_open.Given as goal

abbrev pub invariant-loop-strip : goal.invariant-loop-strip
invariant-loop-strip l = Counting l.strips l.area l.open l.strip-index
