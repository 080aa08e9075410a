-- `strips::mark_each` meets its contract. The invariant: the cells that are passed have their marks (`Adds`). Assumes nothing.
use lib.ListN.{take}
use Rattle.strips.specs.Marks.{Adds}
use Rattle.strips.proofs.marks.mark_each.Given as goal

abbrev pub invariant-loop-cell : goal.invariant-loop-cell
invariant-loop-cell l = Adds (take l.cell-index l.cells) l.initial.strips l.strips
