-- `chance::rank_cells` meets its contract. The invariant: the first j cells are ranked and marked (`RankedTo`); each way through a turn is one law of `Horner`.
-- Assumes nothing.
use Rattle.chance.specs.Ranking.{RankedTo}
use Rattle.chance.proofs.ranks.rank_cells.Given as goal

abbrev pub invariant-loop-j : goal.invariant-loop-j
invariant-loop-j l = RankedTo l.list l.area l.free l.initial.strips l.strips l.tally l.rank l.j
