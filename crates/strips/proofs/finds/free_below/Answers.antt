-- `strips::free_below` meets its contract. The invariant: so many squares of the strips that are passed have no mark (`Summing`); the part of the last strip
-- comes after the loop. Assumes nothing.
use native.Mathlib.Omega.{arith}
use Prim.Native.Nat.{◌<◌, ◌≤◌, ◌/◌}
use Rattle.strips.proofs.Finding.{summing_none, strips_long, summing_fits, summing_next, part_less, summing_all}
use Rattle.strips.proofs.finds.free_below.Goals as goal

pub loop-count-init : goal.loop-count-init
loop-count-init c = summing_none _ _

pub overflow_add-open : goal.overflow_add-open
overflow_add-open c =
    let a = c.args in
    let r = c.requires in
    let h : c.loop-count.count-index < a.c / 64 = omega (arith, c.loop-count-test.true, strips_long a.strips.now a.tally.now a.area a.c r.counted r.inside) in
    summing_fits _ _ _ _ _ _ c.loop-count.invariant r.counted r.inside h _ c.from-open.ensures

pub loop-count-preserved : goal.loop-count-preserved
loop-count-preserved c =
    let a = c.args in
    let r = c.requires in
    let h : c.loop-count.count-index < a.c / 64 = omega (arith, c.loop-count-test.true, strips_long a.strips.now a.tally.now a.area a.c r.counted r.inside) in
    summing_next _ _ _ _ _ _ c.loop-count.invariant r.counted r.inside h _ c.from-open.ensures

pub overflow_sub-result : goal.overflow_sub-result
overflow_sub-result c = part_less _ _ _ _ c.loop-count.invariant

pub returns : goal.returns
returns c =
    let a = c.args in
    let r = c.requires in
    let h : a.c / 64 ≤ c.loop-count.count-index = omega (arith, c.loop-count-test.false, strips_long a.strips.now a.tally.now a.area a.c r.counted r.inside) in
    summing_all _ _ _ _ c.loop-count.invariant h
