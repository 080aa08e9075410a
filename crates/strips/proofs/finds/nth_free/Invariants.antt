-- `strips::nth_free` meets its contract. The invariant: the free squares from strip s on, l of them passed over, end where all of them do (`Scanning`); each way
-- through a turn is one law of `Finding`. Assumes nothing.
use Rattle.strips.proofs.Finding.{Scanning}
use Rattle.strips.proofs.finds.nth_free.Given as goal

abbrev pub invariant-loop-s : goal.invariant-loop-s
invariant-loop-s l = Scanning l.strips l.area l.i l.left l.s
