-- `strips::count_strips` meets its contract. The invariant: the first s strips have their counts (`Tallying`). Assumes nothing.
use Rattle.strips.proofs.Counting.{tally_none, tally_fits, tally_next, tally_all}
use Rattle.strips.proofs.counts.count_strips.Goals as goal

pub loop-s-init : goal.loop-s-init
loop-s-init c = tally_none _ _ _ c.requires.tally_len

pub overflow_cast-tally : goal.overflow_cast-tally
overflow_cast-tally c = tally_fits _ _ _ _ c.loop-s.invariant _ c.open_in.ensures

pub loop-s-preserved : goal.loop-s-preserved
loop-s-preserved c = tally_next _ _ _ _ c.loop-s.invariant _ c.open_in.ensures c.requires.area_bound.0 _ c.reached-s-end.ensures c.loop-s-test.true

pub returns : goal.returns
returns c = tally_all _ _ _ _ c.loop-s.invariant _ c.reached-s-end.ensures c.loop-s-test.false c.requires.area_bound.0 c.requires.area_bound.1
