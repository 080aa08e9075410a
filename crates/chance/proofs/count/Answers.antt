-- `chance::count` meets its contract: an image that the check refuses is refused by its fault, and one that it accepts is sound, which `count_due` asks.
-- Assumes nothing.
use Rattle.std.proofs.lemmas.Result.{err_from_is_err_and}
use Rattle.outcomes.proofs.Checked.{checked_sound}
use Rattle.outcomes.proofs.Rows.{count_faulty}
use Rattle.chance.proofs.count.Goals as goal

pub returns-in_err-check_image : goal.returns-in_err-check_image
returns-in_err-check_image c =
    let p = err_from_is_err_and c.from_residual.result c.from_residual.ensures.1 in
    rw (p.1, p.2) (count_faulty c.args.image.now c.check_image.result c.check_image.ensures _ c.in_err-check_image.was)

pub count_due-requires : goal.count_due-requires
count_due-requires c = checked_sound c.args.image.now c.check_image.result c.check_image.ensures _ c.in_ok-check_image.was
