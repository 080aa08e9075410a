-- `strips::free_below` meets its contract. The invariant: so many squares of the strips that are passed have no mark (`Summing`); the part of the last strip
-- comes after the loop. Assumes nothing.
use Rattle.strips.proofs.Finding.{Summing}
use Rattle.strips.proofs.finds.free_below.Given as goal

abbrev pub invariant-loop-count : goal.invariant-loop-count
invariant-loop-count l = Summing l.strips l.c l.open l.count-index
