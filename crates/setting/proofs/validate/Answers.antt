-- `setting::validate` meets its contract: what the first half refuses, else the second half's answer. Assumes nothing.
use Rattle.std.proofs.lemmas.Result.{err_from_is_err_and}
use Rattle.rules.proofs.SettingParts.{limited_by}
use Rattle.setting.proofs.Halves.{refused_first, second_says}
use Rattle.setting.proofs.validate.Goals as goal

pub returns-in_err-limits : goal.returns-in_err-limits
returns-in_err-limits c =
    let p = err_from_is_err_and c.from_residual.result c.from_residual.ensures.1 in
    rw (p.1, p.2) (record { answer = refused_first c.args.setting c.limits.result c.limits.ensures _ c.in_err-limits.was })

pub check_places-requires : goal.check_places-requires
check_places-requires c = limited_by c.args.setting c.limits.result c.limits.ensures c.in_ok-limits.was

pub returns : goal.returns
returns c = second_says c.args.setting c.limits.result c.limits.ensures c.in_ok-limits.was _ c.check_places.ensures
