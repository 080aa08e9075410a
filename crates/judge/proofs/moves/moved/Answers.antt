use Rattle.judge.proofs.Moving.{living_moves, corpse_stays}
use Rattle.judge.proofs.moves.moved.Goals as goal

pub returns-then-snake : goal.returns-then-snake
returns-then-snake c = search living_moves

pub returns : goal.returns
returns c = search corpse_stays
