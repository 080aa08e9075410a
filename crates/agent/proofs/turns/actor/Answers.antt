-- `agent::actor` meets its contract: what the check refuses is refused so, and an image that it accepts is sound, so it has five words at least.
-- Assumes nothing.
use native.Mathlib.Omega.{arith}
use Rattle.std.proofs.lemmas.Result.{err_from_is_err_and}
use Rattle.rules.proofs.Facts.{word_in}
use Rattle.image.proofs.Examined.{image_sound}
use Rattle.agent.proofs.Gates.{actor_faulty, actor_all, actor_chance}
use Rattle.agent.proofs.turns.actor.Goals as goal

pub returns-in_err-check_image : goal.returns-in_err-check_image
returns-in_err-check_image c =
    let p = err_from_is_err_and c.from_residual.result c.from_residual.ensures.1 in
    rw (p.1, p.2) (actor_faulty _ _ c.in_err-check_image.ensures)

pub bounds-image-2 : goal.bounds-image-2
bounds-image-2 c = word_in _ 2 (image_sound _ _ c.in_ok-check_image.ensures) (omega arith)

pub returns-then-image-eq0 : goal.returns-then-image-eq0
returns-then-image-eq0 c = let s = image_sound _ _ c.in_ok-check_image.ensures in search actor_all

pub returns : goal.returns
returns c = let s = image_sound _ _ c.in_ok-check_image.ensures in search actor_chance
