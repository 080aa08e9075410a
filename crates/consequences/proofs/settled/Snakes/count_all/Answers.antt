-- `consequences::Snakes::count_all` meets its contract: the invariant has the counts of the snakes passed, and that they are small (`Laws`).
-- Assumes nothing.
use Prim.Native.Nat.{◌<◌}
use native.Mathlib.Omega.{arith}
use Rattle.consequences.proofs.Laws.{each_one, count_start, count_on}
use Rattle.consequences.proofs.settled.Snakes.count_all.Goals as goal

pub loop-a-init : goal.loop-a-init
loop-a-init c = search count_start

pub loop-a-preserved : goal.loop-a-preserved
loop-a-preserved c =
    let l : c.loop-a.a-index < c.args.self.now.count = omega arith in
    let e = each_one c.args.self.now.all c.each-a-items.result.now c.args.self.now.count c.each-a-items.ensures.snakes c.loop-a.a-index l in
    search count_on
