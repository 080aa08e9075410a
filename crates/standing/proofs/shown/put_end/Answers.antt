-- `standing::put_end` meets its contract: the places of the match, as many as it has snakes (`Showing`). Assumes nothing.
use Rattle.standing.proofs.Showing.{end_written}
use Rattle.standing.proofs.shown.put_end.Goals as goal

pub returns : goal.returns
returns c = search end_written
