-- `referee::turn` meets its contract: after the end a line is refused by 33, before it the line is read and played (`Lines`).
-- Assumes nothing.
use Rattle.referee.proofs.Lines.{turn_stops, turn_plays}
use Rattle.referee.proofs.turns.turn.Goals as goal

pub returns-then-m : goal.returns-then-m
returns-then-m c = search turn_stops

pub returns : goal.returns
returns c = search turn_plays
