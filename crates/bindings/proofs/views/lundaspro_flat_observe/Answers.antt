-- `bindings::lundaspro_flat_observe` meets its contract: the arena's numbers, and how many; a refusal tells nothing (`Saying`). Assumes nothing.
use Rattle.bindings.proofs.Saying.{view_told}
use Rattle.bindings.proofs.views.lundaspro_flat_observe.Goals as goal

pub returns : goal.returns
returns c = search view_told
