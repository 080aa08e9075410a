-- `consequences::Snakes::find_killer` meets its contract: the invariant says that none of the snakes passed holds the cell (`Laws`).
-- Assumes nothing.
use borrow.Author.Rules.{rules}
use Rattle.consequences.proofs.Laws.{each_one, holder_here, holder_on, holder_none}
use Rattle.consequences.proofs.settled.Snakes.find_killer.Goals as goal

pub returns-then-has_cell : goal.returns-then-has_cell
returns-then-has_cell c = search (rules, holder_here, each_one)

pub loop-j-preserved : goal.loop-j-preserved
loop-j-preserved c = search (rules, holder_on, each_one)

pub returns : goal.returns
returns c = search (rules, holder_none)
