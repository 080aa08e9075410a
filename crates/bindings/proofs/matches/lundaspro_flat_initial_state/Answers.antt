-- `bindings::lundaspro_flat_initial_state` meets its contract: the arena's words, and how many; a refusal tells nothing (`Saying`). Assumes nothing.
use Rattle.bindings.proofs.Saying.{start_told}
use Rattle.bindings.proofs.matches.lundaspro_flat_initial_state.Goals as goal

pub returns : goal.returns
returns c = search start_told
