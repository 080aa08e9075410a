-- `referee::ask` meets its contract: a desk that has begun takes a turn, a new one its first line (`Lines`).
-- Assumes nothing.
use Rattle.referee.proofs.Lines.{ask_turns, ask_begins}
use Rattle.referee.proofs.play.ask.Goals as goal

pub returns-then-d : goal.returns-then-d
returns-then-d c = search ask_turns

pub returns : goal.returns
returns c = search ask_begins
