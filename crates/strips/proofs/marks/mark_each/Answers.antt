-- `strips::mark_each` meets its contract. The invariant: the cells that are passed have their marks (`Adds`). Assumes nothing.
use borrow.Author.Rules.{rules}
use Rattle.strips.proofs.Strips.{cell_in, adds_none, adds_next, adds_whole}
use Rattle.strips.proofs.marks.mark_each.Goals as goal

pub loop-cell-init : goal.loop-cell-init
loop-cell-init c = search (rules, adds_none)

pub mark-requires : goal.mark-requires
mark-requires c = search (rules, cell_in)

pub loop-cell-preserved : goal.loop-cell-preserved
loop-cell-preserved c =
    adds_next c.args.cells.now c.args.strips.now c.loop-cell.cell-index _ _ _ c.loop-cell-test.true c.from.ensures c.loop-cell.invariant c.mark.ensures

pub returns : goal.returns
returns c = search (rules, adds_whole)
