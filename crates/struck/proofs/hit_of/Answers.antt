-- Each hit by the cause: the definition's, as it was handed.
use Rattle.std.specs.Prelude.{Some}
use mathlib.Core.Path.{ap, ◌∙◌}
use mathlib.Core.Logic.{⊎_elim}
use Rattle.struck.proofs.Hitting.{hit_free, hit_wall, hit_own, hit_other, hit_heads}
use Rattle.struck.proofs.hit_of.Goals as goal

pub returns-in_err-cause : goal.returns-in_err-cause
returns-in_err-cause c =
    let r = c.requires in
    rw c.from_residual.ensures (hit_free _ _ _ _ r.judging _ r.cause_value c.in_err-cause.was)

pub returns-in-Wall : goal.returns-in-Wall
returns-in-Wall c =
    let r = c.requires in
    ⊎_elim
    (λ x. hit_wall _ _ _ _ r.judging _ r.cause_value (c.in_ok-cause.was ∙ ap Some x))
    (λ x. hit_heads _ _ _ _ r.judging _ r.cause_value (c.in_ok-cause.was ∙ ap Some x))
    c.in-Wall.is

pub returns-in-SelfBody : goal.returns-in-SelfBody
returns-in-SelfBody c =
    let r = c.requires in
    hit_own _ _ _ _ r.judging _ r.cause_value (c.in_ok-cause.was ∙ ap Some c.in-SelfBody.is) _ c.own_hit.ensures

pub returns-in-OppBody : goal.returns-in-OppBody
returns-in-OppBody c =
    let r = c.requires in
    let e = c.in_ok-cause.was ∙ ap Some c.in-OppBody.is in
    search (hit_other _ _ _ _ r.judging _ r.cause_value e)
