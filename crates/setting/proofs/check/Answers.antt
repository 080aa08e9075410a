-- `setting::check` meets its contract: what the first half refuses, else the second half's answer. Assumes nothing.
use borrow.Author.Rules.{rules}
use Rattle.std.proofs.lemmas.Result.{err_from_is_err_and}
use Rattle.rules.proofs.SettingParts.{limited_by}
use Rattle.setting.proofs.Halves.{judge_first, judge_second}
use Rattle.setting.proofs.check.Goals as goal

pub returns-in_err-limits : goal.returns-in_err-limits
returns-in_err-limits c =
    let p = err_from_is_err_and c.from_residual.result c.from_residual.ensures.1 in
    rw (p.1, p.2) (judge_first c.args.setting c.limits.result c.limits.ensures _ _ _ c.in_err-limits.was)

pub place_check-requires-clause-limited : goal.place_check-requires-clause-limited
place_check-requires-clause-limited c = limited_by c.args.setting c.limits.result c.limits.ensures c.in_ok-limits.was

pub returns : goal.returns
returns c = judge_second c.args.setting c.limits.result c.limits.ensures _ _ _ c.in_ok-limits.was _ c.place_check.ensures
