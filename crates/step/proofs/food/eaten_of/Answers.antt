-- `step::eaten_of` meets its contract: the invariant says that the cells so far are those that the snakes passed ate (`Left`).
-- Assumes nothing.
use Prim.Native.Nat.{◌<◌}
use native.Mathlib.Omega.{arith}
use borrow.Author.Rules.{rules}
use Rattle.consequences.proofs.Laws.{each_one}
use Rattle.step.proofs.Left.{eaten_none, eaten_same, eaten_more}
use Rattle.step.proofs.food.eaten_of.Goals as goal
use Rattle.step.proofs.food.eaten_of.Goals.{then-a, else-a}

pub loop-a-init : goal.loop-a-init
loop-a-init c = search (rules, eaten_none)

pub loop-a-preserved : goal.loop-a-preserved
loop-a-preserved c =
    let l : c.loop-a.a-index < c.args.snakes.now.count = omega arith in
    let e = each_one c.args.snakes.now.all c.each-a-items.result.now c.args.snakes.now.count c.each-a-items.ensures.snakes c.loop-a.a-index l in
    elim c.if-a.branch [ then-a w ↦ rw w.eaten-is (search eaten_more) | else-a w ↦ rw w.eaten-is (search eaten_same) ]
