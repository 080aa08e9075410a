-- `flat::match_numbers` meets its contract: number by number (`Matches`). Assumes nothing.
use Rattle.flat.proofs.Matches.{match_told}
use Rattle.flat.proofs.games.match_numbers.Goals as goal

pub returns : goal.returns
returns c = search match_told
