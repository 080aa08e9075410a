-- `chance::rank_cells` meets its contract. The invariant: the first j cells are ranked and marked (`RankedTo`); each way through a turn is one law of `Horner`.
-- Assumes nothing.
use Rattle.chance.proofs.Horner.{ranked_none, ranked_off, ranked_taken, ranked_free, ranked_times, ranked_room, ranked_next, ranked_all}
use Rattle.chance.proofs.ranks.rank_cells.Goals as goal
use Rattle.chance.proofs.ranks.rank_cells.Goals.{then-area-cell-via-then-area-cell, then-area-cell-via-else-area-cell+then-is_marked}

pub loop-j-init : goal.loop-j-init
loop-j-init c = search ranked_none

pub returns-then-area-cell : goal.returns-then-area-cell
returns-then-area-cell c =
    elim c.then-area-cell.branch [ then-area-cell-via-then-area-cell w ↦ search ranked_off | then-area-cell-via-else-area-cell+then-is_marked w ↦ search ranked_taken ]

pub overflow_mul-rank : goal.overflow_mul-rank
overflow_mul-rank c = search ranked_times

pub take_place-requires : goal.take_place-requires
take_place-requires c = search ranked_free

pub overflow_add-rank : goal.overflow_add-rank
overflow_add-rank c = search ranked_room

pub loop-j-preserved : goal.loop-j-preserved
loop-j-preserved c = search ranked_next

pub returns : goal.returns
returns c = search ranked_all
