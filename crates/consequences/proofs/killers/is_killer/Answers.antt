-- `consequences::is_killer` meets its contract: one of the first n deaths is credited to the snake (`Laws`).
-- Assumes nothing.
use borrow.Author.Rules.{rules}
use Rattle.consequences.proofs.Laws.{credited_so}
use Rattle.consequences.proofs.killers.is_killer.Goals as goal

pub returns : goal.returns
returns c = search (rules, credited_so)
