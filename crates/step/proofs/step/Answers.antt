-- `step::step` meets its contract: a refusal leaves the lent words; an accepted step is the applied judgement (`Refusals`).
-- Assumes nothing.
use Rattle.std.proofs.lemmas.Result.{err_from_is_err_and}
use Rattle.step.proofs.Refusals.{asked_sound, asked_count, steps_refused, steps_done}
use Rattle.step.proofs.step.Goals as goal

pub returns-in_err-asked : goal.returns-in_err-asked
returns-in_err-asked c =
    let p = err_from_is_err_and c.from_residual.result c.from_residual.ensures.1 in
    rw (p.1, p.2) (steps_refused _ _ _ _ c.asked.ensures _ _ c.in_err-asked.was)

pub go_on-requires : goal.go_on-requires
go_on-requires c = let e = c.in_ok-asked.was in search (asked_sound, asked_count)

pub returns : goal.returns
returns c = let e = c.in_ok-asked.was in search steps_done
