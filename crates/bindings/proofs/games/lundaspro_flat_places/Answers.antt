-- `bindings::lundaspro_flat_places` meets its contract: the places of the match that the numbers are read as (`GameLaws`). Assumes nothing.
use Rattle.bindings.proofs.GameLaws.{places_told}
use Rattle.bindings.proofs.games.lundaspro_flat_places.Goals as goal

pub returns : goal.returns
returns c = search places_told
