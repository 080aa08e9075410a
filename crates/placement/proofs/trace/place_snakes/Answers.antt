use native.Mathlib.Omega.{arith}
use Rattle.placement.proofs.Laying.{laying_start, laying_room, laying_count, laying_short, laying_on}
use Rattle.placement.proofs.trace.place_snakes.Goals as goal

pub loop-i-init : goal.loop-i-init
loop-i-init c =
    let a = c.args in
    laying_start a.g a.n a.size a.cells.now c.requires

pub trace_body-k-requires-clause-at_in_bounds : goal.trace_body-k-requires-clause-at_in_bounds
trace_body-k-requires-clause-at_in_bounds c =
    let a = c.args in
    let p = c.requires in
    (laying_room a.g a.n a.size a.cells.now p c.loop-i.cells c.loop-i.at c.loop-i.i c.loop-i.invariant c.loop-i-test.true, p.side_max, p.size_min)

pub returns-then-k-size : goal.returns-then-k-size
returns-then-k-size c =
    let a = c.args in
    laying_short a.g a.n a.size a.cells.now c.requires c.loop-i.cells c.loop-i.at c.loop-i.i c.loop-i.invariant _ _ _ c.loop-i-test.true c.start_place-start.ensures c.trace_body-k.ensures c.if-k-size.true

pub overflow_add-at : goal.overflow_add-at
overflow_add-at c =
    let a = c.args in
    let h = laying_count a.g a.n a.size a.cells.now c.requires c.loop-i.cells c.loop-i.at c.loop-i.i c.loop-i.invariant _ _ _ c.loop-i-test.true c.start_place-start.ensures c.trace_body-k.ensures in
    record { fits = omega (arith, h, c.loop-i.invariant.long, c.requires.room) }

pub loop-i-preserved : goal.loop-i-preserved
loop-i-preserved c =
    let a = c.args in
    laying_on a.g a.n a.size a.cells.now c.requires c.loop-i.cells c.loop-i.at c.loop-i.i c.loop-i.invariant _ _ _ c.loop-i-test.true c.start_place-start.ensures c.trace_body-k.ensures c.if-k-size.false
