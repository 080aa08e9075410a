-- `bindings::lundaspro_flat_step` meets its contract: the arena's words, events and end; a refusal tells nothing (`Saying`). Assumes nothing.
use Rattle.bindings.proofs.Saying.{step_told, step_refused}
use Rattle.bindings.proofs.matches.lundaspro_flat_step.Goals as goal

pub returns-in-Ok : goal.returns-in-Ok
returns-in-Ok c = search step_told

pub returns-in-Err : goal.returns-in-Err
returns-in-Err c = search step_refused
