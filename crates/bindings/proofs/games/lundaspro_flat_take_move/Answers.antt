-- `bindings::lundaspro_flat_take_move` meets its contract: the match's answer in numbers; a refusal tells nothing (`GameLaws`). Assumes nothing.
use Rattle.bindings.proofs.GameLaws.{move_told, move_refused}
use Rattle.bindings.proofs.games.lundaspro_flat_take_move.Goals as goal

pub returns-in-Ok : goal.returns-in-Ok
returns-in-Ok c = search move_told

pub returns-in-Err : goal.returns-in-Err
returns-in-Err c = search move_refused
