-- `bindings::lundaspro_flat_action_space` meets its contract: what it says is what the arena's answer says (`Saying`). Assumes nothing.
use Rattle.bindings.proofs.Saying.{action_space}
use Rattle.bindings.proofs.views.lundaspro_flat_action_space.Goals as goal

pub returns : goal.returns
returns c = search action_space
