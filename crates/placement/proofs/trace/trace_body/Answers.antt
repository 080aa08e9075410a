use native.Mathlib.Omega.{arith}
use Rattle.placement.proofs.Going.{going_room, going_full, going_stuck, going_on}
use Rattle.placement.proofs.trace.trace_body.Goals as goal

pub returns-in_default : goal.returns-in_default
returns-in_default c =
    let l = c.loop-k in
    let a = c.args in
    going_stuck a.g a.even a.size a.start a.cells.now a.at c.requires.at_in_bounds.0 c.requires.start_value c.requires.at_in_bounds.1 l.cells l.walk.place l.walk.turn l.k l.invariant c.in_default.ensures

pub bounds-cells-at-in-loop-k : goal.bounds-cells-at-in-loop-k
bounds-cells-at-in-loop-k c =
    let l = c.loop-k in
    let a = c.args in
    let n = c.in-Some.next in
    let h = going_room a.g a.even a.size a.start a.cells.now a.at c.requires.at_in_bounds.0 c.requires.start_value c.requires.at_in_bounds.1 l.cells l.walk.place l.walk.turn l.k l.invariant c.loop-k-test.true n.place n.turn c.in-Some.ensures.0 c.in-Some.ensures.1 in
    omega (arith, h, l.invariant.long)

pub loop-k-preserved : goal.loop-k-preserved
loop-k-preserved c =
    let l = c.loop-k in
    let a = c.args in
    let n = c.in-Some.next in
    going_on a.g a.even a.size a.start a.cells.now a.at c.requires.at_in_bounds.0 c.requires.start_value c.requires.at_in_bounds.1 l.cells l.walk.place l.walk.turn l.k l.invariant c.loop-k-test.true n.place n.turn c.in-Some.ensures.0 c.in-Some.ensures.1 c.cell_of-in-loop-k.result c.cell_of-in-loop-k.ensures

pub returns : goal.returns
returns c =
    let l = c.loop-k in
    let a = c.args in
    going_full a.g a.even a.size a.start a.cells.now a.at c.requires.at_in_bounds.0 c.requires.start_value c.requires.at_in_bounds.1 l.cells l.walk.place l.walk.turn l.k l.invariant c.loop-k-test.false
