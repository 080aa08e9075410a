-- `cells::count_left` meets its contract: all are left where nothing is eaten, else those that are not eaten are counted (`left_count`). Assumes nothing.
use Rattle.std.proofs.Common.{rules, ◌≡◌, sym, ap, ◌∙◌, length, not, arith}
use Rattle.std.specs.List.{count_by}
use Rattle.std.proofs.lemmas.Bool.Decides.{nat_tests}
use Rattle.lists.specs.Lists.{member}
use Rattle.cells.proofs.Left.{left_all, left_count}
use Rattle.cells.proofs.eaten.count_left.Goals as goal

pub returns-then-is_empty : goal.returns-then-is_empty
returns-then-is_empty c =
    let z : length c.args.eaten.now ≡ 0 = grind (arith, nat_tests) in
    ap length (sym (left_all c.args.eaten.now c.args.food.now z))

pub returns : goal.returns
returns c =
    let e : c.count.result ≡ count_by (λ a. not (member a c.args.eaten.now)) c.args.food.now = search rules in
    e ∙ left_count c.args.eaten.now c.args.food.now
