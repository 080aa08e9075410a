-- `boards::stamps_once` meets its contract. The invariant: the pass over what is left, on the board as it is now, gives the whole answer (`Stamping`);
-- each way through a turn is one law of `Boards`. Assumes nothing.
use Rattle.boards.proofs.Boards.{Stamping}
use Rattle.boards.proofs.stamps.stamps_once.Given as goal

abbrev pub invariant-loop-cell : goal.invariant-loop-cell
invariant-loop-cell l = Stamping l.list l.stamp l.board l.cell-index
