-- `strips::mark_all` meets its contract. The invariant: the fours that are passed have their marks (`Adds`). Assumes nothing.
use Prim.Native.Nat.{◌*◌}
use lib.ListN.{take}
use Rattle.strips.specs.Marks.{Adds}
use Rattle.strips.proofs.marks.mark_all.Given as goal

abbrev pub invariant-loop-four : goal.invariant-loop-four
invariant-loop-four l = Adds (take (l.four-index * 4) l.cells) l.initial.strips l.strips
