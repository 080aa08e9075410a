-- `bindings::lundaspro_flat_reward` meets its contract: the arena's sum; a refusal tells nothing (`Saying`). Assumes nothing.
use Rattle.bindings.proofs.Saying.{sum_told, sum_refused}
use Rattle.bindings.proofs.views.lundaspro_flat_reward.Goals as goal

pub returns-in-Ok : goal.returns-in-Ok
returns-in-Ok c = search sum_told

pub returns-in-Err : goal.returns-in-Err
returns-in-Err c = search sum_refused
