-- `bindings::lundaspro_flat_count` meets its contract: what it says is what the arena's answer says (`Saying`). Assumes nothing.
use Rattle.bindings.proofs.Saying.{tells_by}
use Rattle.bindings.proofs.chances.lundaspro_flat_count.Goals as goal

pub returns : goal.returns
returns c = search tells_by
