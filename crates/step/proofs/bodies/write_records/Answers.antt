-- `step::write_records` meets its contract: the invariant says that the records of the snakes passed are written, and where the next body starts (`Turns`).
-- Assumes nothing.
use Prim.Native.Nat.{◌<◌}
use native.Mathlib.Omega.{arith}
use Rattle.consequences.proofs.Laws.{each_one}
use Rattle.step.proofs.Turns.{records_none, records_next}
use Rattle.step.proofs.bodies.write_records.Goals as goal

pub loop-i-init : goal.loop-i-init
loop-i-init c = search records_none

pub loop-i-preserved : goal.loop-i-preserved
loop-i-preserved c =
    let l : c.loop-i.i < c.args.snakes.now.count = omega arith in
    let e = each_one c.args.snakes.now.all c.each-a-items.result.now c.args.snakes.now.count c.each-a-items.ensures.snakes c.loop-i.i l in
    search records_next
