-- `referee::show` meets its contract: the image's first word says how many snakes the line has (`Lines`).
-- Assumes nothing.
use Rattle.referee.proofs.Lines.{line_shows}
use Rattle.referee.proofs.turns.show.Goals as goal

pub returns : goal.returns
returns c = search line_shows
