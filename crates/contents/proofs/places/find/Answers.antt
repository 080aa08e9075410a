-- `contents::places::find` meets its contract: 40, then 41, then where the contents say that the page lies. Assumes nothing.
use borrow.Author.Rules.{rules}
use Rattle.std.proofs.lemmas.Result.{err_from_is_err_and}
use Rattle.contents.proofs.Finding.{opened, counted, page_there, find_40, find_41}
use Rattle.contents.proofs.places.find.Goals as goal

pub returns-in_err-check_contents : goal.returns-in_err-check_contents
returns-in_err-check_contents c =
    let p = err_from_is_err_and c.from_residual.result c.from_residual.ensures.1 in
    rw (p.1, p.2) (find_40 _ _ _ c.check_contents.result c.check_contents.ensures _ c.in_err-check_contents.was)

pub word-requires : goal.word-requires
word-requires c = counted _ _ c.check_contents.result c.check_contents.ensures c.in_ok-check_contents.was

pub returns-then-word-page : goal.returns-then-word-page
returns-then-word-page c = find_41 _ _ _ (opened _ _ c.check_contents.result c.check_contents.ensures c.in_ok-check_contents.was) _ c.word.ensures c.if-word-page.true

pub span_at-requires-clause-accepted : goal.span_at-requires-clause-accepted
span_at-requires-clause-accepted c = opened _ _ c.check_contents.result c.check_contents.ensures c.in_ok-check_contents.was

pub span_at-requires-clause-i_bound : goal.span_at-requires-clause-i_bound
span_at-requires-clause-i_bound c = search (rules, page_there)
