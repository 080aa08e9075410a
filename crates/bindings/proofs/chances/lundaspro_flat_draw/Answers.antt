-- `bindings::lundaspro_flat_draw` meets its contract: the arena's words and list, and how many; a refusal tells nothing (`Saying`). Assumes nothing.
use Rattle.bindings.proofs.Saying.{draw_told, draw_refused}
use Rattle.bindings.proofs.chances.lundaspro_flat_draw.Goals as goal

pub returns-in-Ok : goal.returns-in-Ok
returns-in-Ok c = search draw_told

pub returns-in-Err : goal.returns-in-Err
returns-in-Err c = search draw_refused
