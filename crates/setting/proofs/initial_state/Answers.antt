-- `setting::initial_state` meets its contract: what the check refuses, and else the cells of all bodies stand at the front, from which the core
-- writes (`Starting`). Assumes nothing.
use borrow.Author.Rules.{rules}
use Rattle.std.proofs.lemmas.Result.{err_from_is_err_and}
use Rattle.setting.proofs.Starting.{starts_refused, total_fits_lem, total_in, total_part, startable}
use Rattle.setting.proofs.initial_state.Goals as goal

pub returns-in_err-check : goal.returns-in_err-check
returns-in_err-check c =
    let p = err_from_is_err_and c.from_residual.result c.from_residual.ensures.1 in
    rw (p.1, p.2) (starts_refused c.args.setting c.args.out.now _ _ _ _ c.check.result c.check.ensures c.in_err-check.was)

pub overflow_mul-total : goal.overflow_mul-total
overflow_mul-total c = total_fits_lem c.args.setting c.check.result _ _ c.check.ensures c.in_ok-check.was

pub slice_bounds-cells-end : goal.slice_bounds-cells-end
slice_bounds-cells-end c = search (rules, total_in)

pub slice_bounds-write_state-end : goal.slice_bounds-write_state-end
slice_bounds-write_state-end c = search (rules, total_part)

pub write_state-requires : goal.write_state-requires
write_state-requires c = startable c.args.setting c.check.result _ _ c.check.ensures c.in_ok-check.was
