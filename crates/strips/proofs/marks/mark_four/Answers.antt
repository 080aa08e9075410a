-- `strips::mark_four` meets its contract: the cells up to the first, the second, the third and the fourth have their marks (`Adds`). Assumes nothing.
use Rattle.strips.proofs.Strips.{four_marked}
use Rattle.strips.proofs.marks.mark_four.Goals as goal

pub returns : goal.returns
returns c =
    four_marked c.args.cells.now c.args.strips.now c.requires.under.1 c.requires.strips_len _ _ _ _ _ _ _ _ c.from.ensures c.from-2.ensures c.from-3.ensures c.from-4.ensures
    c.mark.ensures c.mark-2.ensures c.mark-3.ensures c.mark-4.ensures
