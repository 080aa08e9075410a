-- `struck::struck` meets its contract: a refusal is that of `asked`; where nothing is refused the hits are the definition's (`Hitting`).
-- Assumes nothing.
use Rattle.std.proofs.lemmas.Result.{err_from_is_err_and}
use Rattle.step.proofs.Refusals.{asked_sound, asked_count}
use Rattle.struck.proofs.Hitting.{strikes_refused, strikes_done}
use Rattle.struck.proofs.struck.Goals as goal

pub returns-in_err-asked : goal.returns-in_err-asked
returns-in_err-asked c =
    let p = err_from_is_err_and c.from_residual.result c.from_residual.ensures.1 in
    rw (p.1, p.2) (strikes_refused _ _ _ _ c.asked.ensures _ c.in_err-asked.was)

pub find_hits-requires : goal.find_hits-requires
find_hits-requires c = let e = c.in_ok-asked.was in search (asked_sound, asked_count)

pub returns : goal.returns
returns c = let e = c.in_ok-asked.was in search strikes_done
