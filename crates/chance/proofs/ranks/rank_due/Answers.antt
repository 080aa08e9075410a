-- `chance::rank_due` meets its contract: the marks stand as `odds_of` leaves them, and each `return` is one law of `Saying`, by the tests that led there.
-- Assumes nothing.
use Rattle.std.proofs.Common.{rules, ◌≡◌, sym, ap, ◌∙◌}
use Rattle.std.specs.Prelude.{Some}
use Rattle.std.specs.Result.{result_ok}
use Rattle.std.proofs.lemmas.Result.{err_from_is_err_and}
use Rattle.outcomes.proofs.Rows.{count_none}
use Rattle.strips.proofs.Strips.{strips_blank}
use Rattle.strips.proofs.Counting.{tally_blank}
use Rattle.chance.proofs.Saying.{rank_23, rank_28, rank_30, rankable, rank_says_lem}
use Rattle.chance.proofs.ranks.rank_due.Goals as goal

pub returns-then-image-eq0 : goal.returns-then-image-eq0
returns-then-image-eq0 c = search rank_23

pub odds_of-found-requires : goal.odds_of-found-requires
odds_of-found-requires c = search (rules, strips_blank)

pub returns-in_err-ok_or : goal.returns-in_err-ok_or
returns-in_err-ok_or c =
    let o = c.odds_of-found in
    let p = err_from_is_err_and c.from_residual.result c.from_residual.ensures.1 in
    let n = count_none o.result.count _ (sym c.ok_or.ensures.value ∙ c.in_err-ok_or.was) in
    rw (p.1, p.2, n.1) (rank_28 c.args.image.now c.args.list.now c.requires c.if-image-eq0.false o.new.strips o.result o.ensures n.0)

pub returns-then-list-found : goal.returns-then-list-found
returns-then-list-found c = let e : c.odds_of-found.result.count ≡ Some c.in_ok-ok_or.field-0 = c.ok_or.ensures.ok_part ∙ ap result_ok c.in_ok-ok_or.was in search rank_30

pub count_strips-requires : goal.count_strips-requires
count_strips-requires c = search (rules, tally_blank)

pub rank_cells-requires : goal.rank_cells-requires
rank_cells-requires c = let e : c.odds_of-found.result.count ≡ Some c.in_ok-ok_or.field-0 = c.ok_or.ensures.ok_part ∙ ap result_ok c.in_ok-ok_or.was in search (rules, rankable)

pub returns : goal.returns
returns c = let e : c.odds_of-found.result.count ≡ Some c.in_ok-ok_or.field-0 = c.ok_or.ensures.ok_part ∙ ap result_ok c.in_ok-ok_or.was in search rank_says_lem
