-- `bindings::lundaspro_flat_struck` meets its contract: the arena's hits; a refusal tells nothing (`Saying`). Assumes nothing.
use Rattle.bindings.proofs.Saying.{struck_told, struck_refused}
use Rattle.bindings.proofs.matches.lundaspro_flat_struck.Goals as goal

pub returns-in-Ok : goal.returns-in-Ok
returns-in-Ok c = search struck_told

pub returns-in-Err : goal.returns-in-Err
returns-in-Err c = search struck_refused
