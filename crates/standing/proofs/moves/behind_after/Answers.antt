-- `standing::behind_after` meets its contract. The invariant: the first i snakes are noted (`Noted` in `Behind`). Assumes nothing.
use Rattle.std.proofs.Common.{rules}
use Rattle.standing.proofs.Behind.{noted_none, noted_next, noted_all}
use Rattle.standing.proofs.moves.behind_after.Goals as goal

pub loop-i-init : goal.loop-i-init
loop-i-init c = search noted_none

pub loop-i-preserved : goal.loop-i-preserved
loop-i-preserved c = search (rules, noted_next)

pub returns : goal.returns
returns c = search noted_all
