-- `flat::match_in` meets its contract: number by number (`Matches`). Assumes nothing.
use Rattle.flat.proofs.Matches.{match_read}
use Rattle.flat.proofs.games.match_in.Goals as goal

pub returns : goal.returns
returns c = search match_read
