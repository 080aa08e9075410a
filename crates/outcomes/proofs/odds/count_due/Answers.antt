-- `outcomes::count_due` meets its contract: the marks stand as `odds_of` leaves them, and each `return` is one law of `Rows`, by the tests that led there.
-- Assumes nothing.
use borrow.Author.Rules.{rules}
use Rattle.strips.proofs.Strips.{strips_blank}
use Rattle.outcomes.proofs.Rows.{count_23, count_says_lem}
use Rattle.outcomes.proofs.odds.count_due.Goals as goal

pub returns-then-image-eq0 : goal.returns-then-image-eq0
returns-then-image-eq0 c = search count_23

pub odds_of-requires : goal.odds_of-requires
odds_of-requires c = search (rules, strips_blank)

pub returns : goal.returns
returns c = search count_says_lem
