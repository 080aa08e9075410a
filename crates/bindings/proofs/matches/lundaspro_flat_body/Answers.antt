-- `bindings::lundaspro_flat_body` meets its contract: a malformed image has no part, a sound one is asked (`Lying`). Assumes nothing.
use Rattle.rules.proofs.Facts.{passed}
use Rattle.telling.proofs.Lying.{malformed}
use Rattle.bindings.proofs.matches.lundaspro_flat_body.Goals as goal

pub returns-then-not-well_formed : goal.returns-then-not-well_formed
returns-then-not-well_formed c = search malformed

pub tell_body-requires : goal.tell_body-requires
tell_body-requires c = search passed
