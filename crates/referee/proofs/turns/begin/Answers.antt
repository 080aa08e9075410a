-- `referee::begin` meets its contract: the first line opens the match or is refused by 32, as it is read (`Lines`).
-- Assumes nothing.
use Rattle.referee.proofs.Lines.{begin_stops, begin_opens}
use Rattle.referee.proofs.turns.begin.Goals as goal

pub returns-in-None : goal.returns-in-None
returns-in-None c = search begin_stops

pub returns-in-Some : goal.returns-in-Some
returns-in-Some c = search begin_opens
