-- `standing::end_placing` meets its contract: 2 for a living snake that lost, and else 01's placing (`Behind`). Assumes nothing.
use Rattle.standing.proofs.Behind.{placed_behind, placed_else}
use Rattle.standing.proofs.placings.end_placing.Goals as goal

pub returns-then-m-i : goal.returns-then-m-i
returns-then-m-i c = search placed_behind

pub returns : goal.returns
returns c = search placed_else
