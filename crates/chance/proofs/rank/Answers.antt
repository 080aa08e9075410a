-- `chance::rank` meets its contract, as `count` does. Assumes nothing.
use Rattle.std.proofs.lemmas.Result.{err_from_is_err_and}
use Rattle.outcomes.proofs.Checked.{checked_sound}
use Rattle.chance.proofs.Saying.{rank_faulty}
use Rattle.chance.proofs.rank.Goals as goal

pub returns-in_err-check_image : goal.returns-in_err-check_image
returns-in_err-check_image c =
    let a = c.args in
    let p = err_from_is_err_and c.from_residual.result c.from_residual.ensures.1 in
    rw (p.1, p.2) (rank_faulty a.image.now a.list.now c.check_image.result c.check_image.ensures _ c.in_err-check_image.was)

pub rank_due-requires : goal.rank_due-requires
rank_due-requires c = checked_sound c.args.image.now c.check_image.result c.check_image.ensures _ c.in_ok-check_image.was
