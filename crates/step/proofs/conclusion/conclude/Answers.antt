-- `step::conclude` meets its contract: the answer of `write_next` tells whether there was room, and the counts link the rest to the definition (`Follows`).
-- Assumes nothing.
use Rattle.std.proofs.lemmas.Result.{err_from_is_err_and}
use Rattle.step.proofs.Follows.{concluded_29, concluded}
use Rattle.step.proofs.conclusion.conclude.Goals as goal

pub returns-in_err-words : goal.returns-in_err-words
returns-in_err-words c =
    let p = err_from_is_err_and c.from_residual.result c.from_residual.ensures.1 in
    let e = c.in_err-words.was in
    rw (p.1, p.2) (search concluded_29)

pub returns : goal.returns
returns c = let e = c.in_ok-words.was in search concluded
