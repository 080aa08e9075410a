-- `cells::write_left` meets its contract. The invariant: those left of the apples so far are written, and `at` is the index after them (`LeftTo`).
-- Assumes nothing.
use Rattle.std.proofs.Common.{◌≡◌, ap, sym, ◌∙◌, ◌<◌, length, arith}
use Rattle.std.proofs.lemmas.Bool.Decides.{nat_tests}
use Rattle.lists.specs.Lists.{write_at}
use Rattle.cells.proofs.Left.{left_all, left_start, left_skip, left_room, left_put, left_done}
use Rattle.cells.proofs.eaten.write_left.Goals as goal
use Rattle.cells.proofs.eaten.write_left.Goals.{then-not-holds, else-not-holds}

pub write_at-requires : goal.write_at-requires
write_at-requires c =
    let z : length c.args.eaten.now ≡ 0 = grind (arith, nat_tests) in
    omega (arith, ap length (left_all c.args.eaten.now c.args.food.now z))

pub returns-then-is_empty : goal.returns-then-is_empty
returns-then-is_empty c =
    let z : length c.args.eaten.now ≡ 0 = grind (arith, nat_tests) in
    c.write_at.ensures ∙ ap (write_at c.args.out.now c.args.from) (sym (left_all c.args.eaten.now c.args.food.now z))

pub loop-x-init : goal.loop-x-init
loop-x-init c = search left_start

pub offset_bounds-out-at : goal.offset_bounds-out-at
offset_bounds-out-at c = let r : c.loop-x.at < length c.args.out.now = search left_room in omega arith

pub bounds-out-at : goal.bounds-out-at
bounds-out-at c = let r : c.loop-x.at < length c.args.out.now = search left_room in omega arith

pub overflow_add-at : goal.overflow_add-at
overflow_add-at c = let r : c.loop-x.at < length c.args.out.now = search left_room in omega arith

pub loop-x-preserved : goal.loop-x-preserved
loop-x-preserved c = elim c.if-not-holds.branch [
  | then-not-holds w ↦ rw (w.out-is, w.at-is) (search left_put)
  | else-not-holds w ↦ rw (w.out-is, w.at-is) (search left_skip)
]

pub returns : goal.returns
returns c = search left_done
