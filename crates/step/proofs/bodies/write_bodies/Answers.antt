-- `step::write_bodies` meets its contract: the invariant says that the bodies of the snakes passed are written, and which index comes after them (`Turns`).
-- Assumes nothing.
use Prim.Native.Nat.{◌<◌}
use native.Mathlib.Omega.{arith}
use Rattle.consequences.proofs.Laws.{each_one}
use Rattle.step.proofs.Turns.{bodies_none, body_fits, part_there, bodies_next}
use Rattle.step.proofs.bodies.write_bodies.Goals as goal

pub loop-i-init : goal.loop-i-init
loop-i-init c = search bodies_none

pub write_body-at-requires : goal.write_body-at-requires
write_body-at-requires c =
    let l : c.loop-i.i < c.args.snakes.now.count = omega arith in
    let e = each_one c.args.snakes.now.all c.each-a-items.result.now c.args.snakes.now.count c.each-a-items.ensures.snakes c.loop-i.i l in
    search (body_fits, part_there)

pub loop-i-preserved : goal.loop-i-preserved
loop-i-preserved c =
    let l : c.loop-i.i < c.args.snakes.now.count = omega arith in
    let e = each_one c.args.snakes.now.all c.each-a-items.result.now c.args.snakes.now.count c.each-a-items.ensures.snakes c.loop-i.i l in
    search bodies_next
