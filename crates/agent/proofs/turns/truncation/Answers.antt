-- `agent::truncation` meets its contract, as `legal_actions` does.
-- Assumes nothing.
use Rattle.std.proofs.lemmas.Result.{err_from_is_err_and}
use Rattle.image.proofs.Examined.{image_sound}
use Rattle.agent.proofs.Gates.{mark_faulty}
use Rattle.agent.proofs.turns.truncation.Goals as goal

pub returns-in_err-check_image : goal.returns-in_err-check_image
returns-in_err-check_image c =
    let p = err_from_is_err_and c.from_residual.result c.from_residual.ensures.1 in
    rw (p.1, p.2) (mark_faulty _ _ c.in_err-check_image.ensures _ _)

pub truncation_in-requires : goal.truncation_in-requires
truncation_in-requires c = image_sound _ _ c.in_ok-check_image.ensures
