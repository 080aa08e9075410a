-- `boards::stamps_once` meets its contract. The invariant: the pass over what is left, on the board as it is now, gives the whole answer (`Stamping`);
-- each way through a turn is one law of `Boards`. Assumes nothing.
use borrow.Author.Rules.{rules}
use Rattle.boards.proofs.Boards.{stamp_none, stamp_twice, stamp_next, stamp_all}
use Rattle.boards.proofs.stamps.stamps_once.Goals as goal

pub loop-cell-init : goal.loop-cell-init
loop-cell-init c = search stamp_none

pub returns-then-board-square : goal.returns-then-board-square
returns-then-board-square c = search (rules, stamp_twice)

pub loop-cell-preserved : goal.loop-cell-preserved
loop-cell-preserved c = search (rules, stamp_next)

pub returns : goal.returns
returns c = search stamp_all
