-- `bindings::lundaspro_flat_relative_to_absolute` meets its contract: the numbers are read, turned by the arena and told as a number (`Saying`). Assumes nothing.
use Rattle.bindings.proofs.Saying.{turn_told}
use Rattle.bindings.proofs.views.lundaspro_flat_relative_to_absolute.Goals as goal

pub returns : goal.returns
returns c = search turn_told
