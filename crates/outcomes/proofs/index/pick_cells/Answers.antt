-- `outcomes::pick_cells` meets its contract. The invariant: the digits that are passed have given way to cells, each of which has its mark, and the digits left
-- pick the rest (`Picking`). Assumes nothing.
use Rattle.outcomes.proofs.Picks.{picking_none, picking_asks, picking_free, picking_fits, picking_next, picking_all}
use Rattle.outcomes.proofs.index.pick_cells.Goals as goal

pub loop-digit-init : goal.loop-digit-init
loop-digit-init c = picking_none _ _ _ _ c.requires

pub nth_free-cell-requires : goal.nth_free-cell-requires
nth_free-cell-requires c = picking_asks _ _ _ _ _ _ _ c.loop-digit.invariant c.loop-digit-test.true _ c.from.ensures _ c.requires

pub take-requires : goal.take-requires
take-requires c = picking_free _ _ _ _ _ _ _ c.loop-digit.invariant c.loop-digit-test.true _ c.from.ensures _ c.requires _ c.nth_free-cell.ensures

pub overflow_cast-digit : goal.overflow_cast-digit
overflow_cast-digit c = picking_fits _ _ _ _ _ _ _ c.loop-digit.invariant c.loop-digit-test.true _ c.from.ensures _ c.requires _ c.nth_free-cell.ensures

pub loop-digit-preserved : goal.loop-digit-preserved
loop-digit-preserved c =
    picking_next _ _ _ _ _ _ _ c.loop-digit.invariant c.loop-digit-test.true _ c.from.ensures _ c.requires _ c.nth_free-cell.ensures _ _ c.take.ensures

pub returns : goal.returns
returns c = picking_all _ _ _ _ _ _ _ c.loop-digit.invariant c.loop-digit-test.false
