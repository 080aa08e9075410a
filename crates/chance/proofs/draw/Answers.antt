-- `chance::draw` meets its contract, as `count` does. Assumes nothing.
use Rattle.std.proofs.lemmas.Result.{err_from_is_err_and}
use Rattle.outcomes.proofs.Checked.{checked_sound}
use Rattle.chance.proofs.Saying.{draw_faulty}
use Rattle.chance.proofs.draw.Goals as goal

pub returns-in_err-check_image : goal.returns-in_err-check_image
returns-in_err-check_image c =
    let a = c.args in
    let p = err_from_is_err_and c.from_residual.result c.from_residual.ensures.1 in
    rw (p.1, p.2) (draw_faulty a.image.now a.index a.out.now a.list.now c.check_image.result c.check_image.ensures _ c.in_err-check_image.was)

pub draw_due-requires : goal.draw_due-requires
draw_due-requires c = checked_sound c.args.image.now c.check_image.result c.check_image.ensures _ c.in_ok-check_image.was
