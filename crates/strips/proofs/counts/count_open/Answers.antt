-- `strips::count_open` meets its contract. The invariant: so many squares of the strips that are passed have no mark (`Counting`). Assumes nothing.
use mathlib.Core.Path.{◌≡◌}
use native.Mathlib.Omega.{arith}
use Prim.Native.Nat.{◌<◌}
use Rattle.strips.proofs.Counting.{reach_long, counting_none, counting_fits, counting_next, counting_over, counting_all}
use Rattle.strips.proofs.counts.count_open.Goals as goal

pub loop-strip-init : goal.loop-strip-init
loop-strip-init c = counting_none _ _

pub overflow_add-open : goal.overflow_add-open
overflow_add-open c =
    let a = c.args in
    let l = c.loop-strip in
    let z = c.reached-last.result in
    let h : l.strip-index < z = omega (arith, c.loop-strip-test.true, reach_long a.strips.now a.area z c.reached-last.ensures c.requires) in
    counting_fits a.strips.now a.area z l.open l.strip-index l.invariant c.reached-last.ensures h _ c.open_in-open.ensures c.requires.area_max

pub loop-strip-preserved : goal.loop-strip-preserved
loop-strip-preserved c =
    let a = c.args in
    let l = c.loop-strip in
    let z = c.reached-last.result in
    let h : l.strip-index < z = omega (arith, c.loop-strip-test.true, reach_long a.strips.now a.area z c.reached-last.ensures c.requires) in
    counting_next a.strips.now a.area z l.open l.strip-index l.invariant c.reached-last.ensures h _ c.open_in-open.ensures

pub overflow_sub-result : goal.overflow_sub-result
overflow_sub-result c =
    let a = c.args in
    let l = c.loop-strip in
    let z = c.reached-last.result in
    let h : z ≡ l.strip-index = omega (arith, c.loop-strip-test.false, l.auto.strip-index-end, reach_long a.strips.now a.area z c.reached-last.ensures c.requires) in
    counting_over a.strips.now a.area z l.open l.strip-index l.invariant c.reached-last.ensures.0 h c.requires

pub returns : goal.returns
returns c =
    let a = c.args in
    let l = c.loop-strip in
    let z = c.reached-last.result in
    let h : z ≡ l.strip-index = omega (arith, c.loop-strip-test.false, l.auto.strip-index-end, reach_long a.strips.now a.area z c.reached-last.ensures c.requires) in
    counting_all a.strips.now a.area z l.open l.strip-index l.invariant c.reached-last.ensures.0 h c.requires
