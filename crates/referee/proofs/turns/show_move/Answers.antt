-- `referee::show_move` meets its contract: the events shown and the match after the move are what the callees promise (`Lines`).
-- Assumes nothing.
use Rattle.referee.proofs.Lines.{move_shown}
use Rattle.referee.proofs.turns.show_move.Goals as goal

pub returns : goal.returns
returns c = search move_shown
