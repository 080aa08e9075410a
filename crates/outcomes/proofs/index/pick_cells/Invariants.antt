-- `outcomes::pick_cells` meets its contract. The invariant: the digits that are passed have given way to cells, each of which has its mark, and the digits left
-- pick the rest (`Picking`). Assumes nothing.
use Rattle.outcomes.proofs.Picks.{Picking}
use Rattle.outcomes.proofs.index.pick_cells.Given as goal

abbrev pub invariant-loop-digit : goal.invariant-loop-digit
invariant-loop-digit l = Picking l.initial.list l.area l.initial.strips l.list l.strips l.tally l.digit-index
