-- `chance::draw_due` meets its contract: the marks stand as `odds_of` leaves them, and each `return` is one law of `Saying`, by the tests that led there.
-- Assumes nothing.
use Rattle.std.proofs.Common.{rules, ◌≡◌, sym, ap, ◌∙◌}
use Rattle.std.specs.Prelude.{Some}
use Rattle.std.specs.Result.{result_ok}
use Rattle.std.proofs.lemmas.Result.{err_from_is_err_and}
use Rattle.outcomes.proofs.Rows.{count_none}
use Rattle.strips.proofs.Strips.{strips_blank}
use Rattle.chance.proofs.Saying.{words_fit, draw_23, draw_28, draw_27, draw_29, list_29, draw_ready, draw_gives}
use Rattle.chance.proofs.next.draw_due.Goals as goal
use Rattle.chance.proofs.next.draw_due.Goals.{then-out-image-via-then-out-image, then-out-image-via-else-out-image+then-list-found}

pub returns-then-image-eq0 : goal.returns-then-image-eq0
returns-then-image-eq0 c = search draw_23

pub odds_of-found-requires : goal.odds_of-found-requires
odds_of-found-requires c = search (rules, strips_blank)

pub returns-in_err-count : goal.returns-in_err-count
returns-in_err-count c =
    let a = c.args in
    let o = c.odds_of-found in
    let p = err_from_is_err_and c.from_residual.result c.from_residual.ensures.1 in
    let n = count_none o.result.count _ (sym c.ok_or.ensures.value ∙ c.in_err-count.was) in
    rw (p.1, p.2, n.1) (draw_28 a.image.now a.index a.out.now a.list.now c.requires c.if-image-eq0.false o.new.strips o.result o.ensures n.0)

pub returns-then-count-index : goal.returns-then-count-index
returns-then-count-index c = let e : c.odds_of-found.result.count ≡ Some c.in_ok-count.count = c.ok_or.ensures.ok_part ∙ ap result_ok c.in_ok-count.was in search draw_27

pub overflow_add-image : goal.overflow_add-image
overflow_add-image c = search words_fit

pub returns-then-out-image : goal.returns-then-out-image
returns-then-out-image c =
    let e : c.odds_of-found.result.count ≡ Some c.in_ok-count.count = c.ok_or.ensures.ok_part ∙ ap result_ok c.in_ok-count.was in
    elim c.then-out-image.branch [ then-out-image-via-then-out-image w ↦ search draw_29 | then-out-image-via-else-out-image+then-list-found w ↦ search list_29 ]

pub draw_into-requires : goal.draw_into-requires
draw_into-requires c = let e : c.odds_of-found.result.count ≡ Some c.in_ok-count.count = c.ok_or.ensures.ok_part ∙ ap result_ok c.in_ok-count.was in search draw_ready

pub returns : goal.returns
returns c = let e : c.odds_of-found.result.count ≡ Some c.in_ok-count.count = c.ok_or.ensures.ok_part ∙ ap result_ok c.in_ok-count.was in search draw_gives
