-- The invariant: what was found so far, or what is still to come, is the whole answer.
use native.Mathlib.Omega.{arith}
use mathlib.Core.Path.{sym, ap, ◌∙◌}
use mathlib.Core.Bool.{Bool, ◌||◌, or-false}
use Rattle.lists.proofs.Lists.{member_end}
use Rattle.lists.proofs.Search.{search_next}
use Rattle.lists.proofs.holds.Goals as goal

pub loop-word-preserved : goal.loop-word-preserved
loop-word-preserved c =
    let a = c.args in
    let l = c.loop-word in
    search_next a.x a.list.now l.word-index l.found c.loop-word-test.true l.invariant

pub returns : goal.returns
returns c =
    let a = c.args in
    let l = c.loop-word in
    sym (or-false l.found) ∙ ap (λ (b : Bool). l.found || b) (sym (member_end a.x a.list.now l.word-index (omega arith))) ∙ l.invariant
