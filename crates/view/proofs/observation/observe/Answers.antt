-- `view::observe` meets its contract: what the check refuses is refused so, and an image that it accepts is sound, which `observe_in` asks.
-- Assumes nothing.
use Rattle.std.proofs.lemmas.Result.{err_from_is_err_and}
use Rattle.image.proofs.Examined.{image_sound}
use Rattle.view.proofs.Gates.{observe_faulty}
use Rattle.view.proofs.observation.observe.Goals as goal

pub returns-in_err-check_image : goal.returns-in_err-check_image
returns-in_err-check_image c =
    let p = err_from_is_err_and c.from_residual.result c.from_residual.ensures.1 in
    rw (p.1, p.2) (observe_faulty _ _ _ _ c.in_err-check_image.ensures)

pub observe_in-requires : goal.observe_in-requires
observe_in-requires c = image_sound _ _ c.in_ok-check_image.ensures
