-- `bindings::lundaspro_flat_truncation` meets its contract: the arena's event, in bytes; a refusal tells nothing (`Saying`). Assumes nothing.
use Rattle.bindings.proofs.Saying.{mark_told, mark_refused}
use Rattle.bindings.proofs.views.lundaspro_flat_truncation.Goals as goal

pub returns-in-Ok : goal.returns-in-Ok
returns-in-Ok c = search mark_told

pub returns-in-Err : goal.returns-in-Err
returns-in-Err c = search mark_refused
