-- `bindings::lundaspro_flat_validate` meets its contract: each case of the verdict (`Saying`). Assumes nothing.
use Rattle.bindings.proofs.Saying.{setting_accepted, setting_refused}
use Rattle.bindings.proofs.matches.lundaspro_flat_validate.Goals as goal

pub returns-in-Ok : goal.returns-in-Ok
returns-in-Ok c = search setting_accepted

pub returns-in-Err : goal.returns-in-Err
returns-in-Err c = search setting_refused
