-- `outcomes::odds_of` meets its contract: the words past the records are the taken cells, so their marks show the free ones (`stands`).
-- Assumes nothing.
use borrow.Author.Rules.{rules}
use Rattle.outcomes.proofs.Marking.{words_in, words_inside, stands}
use Rattle.outcomes.proofs.odds.odds_of.Goals as goal

pub mark_all-requires : goal.mark_all-requires
mark_all-requires c = search (rules, words_in)

pub count_open-free-requires : goal.count_open-free-requires
count_open-free-requires c = search words_inside

pub returns : goal.returns
returns c = search stands
