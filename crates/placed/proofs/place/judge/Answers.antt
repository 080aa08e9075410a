use native.Mathlib.Omega.{arith}
use mathlib.Core.Path.{◌≡◌}
use lib.ListN.{length}
use Rattle.placed.proofs.Judging.{judge_short, total_most, part_under, judge_twice, judge_last}
use borrow.Author.Rules.{rules}
use Rattle.std.proofs.lemmas.Result.{err_from_is_err_and}
use Rattle.placed.proofs.place.judge.Goals as goal

pub returns-in_err-place_snakes : goal.returns-in_err-place_snakes
returns-in_err-place_snakes c =
    let p = err_from_is_err_and c.from_residual.result c.from_residual.ensures.1 in
    let a = c.args in
    let s = c.place_snakes in
    rw (p.1, p.2) (judge_short a.g a.n a.size a.food a.cells.now c.requires.traceable s.new.cells s.result s.ensures _ c.in_err-place_snakes.was)

pub all_new-requires : goal.all_new-requires
all_new-requires c = search (rules, part_under)

pub returns-then-not-all_new : goal.returns-then-not-all_new
returns-then-not-all_new c = search (rules, judge_twice)

pub check_food-requires : goal.check_food-requires
check_food-requires c = let a = c.args in
    let p = c.place_snakes in
    let m = total_most a.g a.n a.size a.food a.cells.now c.requires.traceable p.new.cells p.result p.ensures c.in_ok-place_snakes.was in
    (omega (arith, m), c.requires.food_bound)

pub overflow_mul-total : goal.overflow_mul-total
overflow_mul-total c =
    let a = c.args in
    let p = c.place_snakes in
    record { fits = omega (arith, total_most a.g a.n a.size a.food a.cells.now c.requires.traceable p.new.cells p.result p.ensures c.in_ok-place_snakes.was) }

pub slice_bounds-all_new-end : goal.slice_bounds-all_new-end
slice_bounds-all_new-end c =
    let a = c.args in
    let p = c.place_snakes in
    let h = total_most a.g a.n a.size a.food a.cells.now c.requires.traceable p.new.cells p.result p.ensures c.in_ok-place_snakes.was in
    let r : length a.cells.now ≡ 1024 = c.requires.traceable.room in
    search rules

pub returns : goal.returns
returns c = search (rules, judge_last)

pub slice_bounds-all_new-end-2 : goal.slice_bounds-all_new-end-2
slice_bounds-all_new-end-2 c =
    let a = c.args in
    let p = c.place_snakes in
    let h = total_most a.g a.n a.size a.food a.cells.now c.requires.traceable p.new.cells p.result p.ensures c.in_ok-place_snakes.was in
    let r : length a.cells.now ≡ 1024 = c.requires.traceable.room in
    search rules
