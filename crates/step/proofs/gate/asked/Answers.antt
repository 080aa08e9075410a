-- `step::asked` meets its contract: the verdict on the setting first, then what is wrong with the image, then what is asked of a checked image (`Refusals`).
-- Assumes nothing.
use Rattle.std.proofs.lemmas.Result.{err_from_is_err_and}
use Rattle.step.proofs.Refusals.{asked_setting, asked_faulty, image_sound, asked_image}
use Rattle.step.proofs.gate.asked.Goals as goal

pub returns-in_err-validate : goal.returns-in_err-validate
returns-in_err-validate c =
    let p = err_from_is_err_and c.from_residual.result c.from_residual.ensures.1 in
    rw (p.1, p.2) (asked_setting _ _ _ _ c.validate.ensures _ c.in_err-validate.was)

pub returns-in_err-check_image : goal.returns-in_err-check_image
returns-in_err-check_image c =
    let r = c.from_residual-in_err-check_image in
    let p = err_from_is_err_and r.result r.ensures.1 in
    rw (p.1, p.2) (asked_faulty _ _ _ _ c.validate.ensures c.in_ok-validate.was _ c.check_image.ensures _ c.in_err-check_image.was)

pub asked_in-requires : goal.asked_in-requires
asked_in-requires c = image_sound c.args.setting c.args.image.now c.args.actions.now _ c.validate.ensures c.in_ok-validate.was _ c.check_image.ensures c.in_ok-check_image.was

pub returns : goal.returns
returns c = asked_image _ _ _ _ c.validate.ensures c.in_ok-validate.was _ c.check_image.ensures c.in_ok-check_image.was _ c.asked_in.ensures
