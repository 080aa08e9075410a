use mathlib.Core.Path.{sym, ◌∙◌}
use borrow.Author.Tests.{eq-eqb, ne_eqb}
use Rattle.parsing.specs.Lines.{draw_in}
use Rattle.parsing.proofs.lines.draw_in.Goals as goal

pub returns-in_err-number_at : goal.returns-in_err-number_at
unfolding draw_in
returns-in_err-number_at c =
    let e = sym c.field_count.ensures ∙ c.if-field_count-eq2.true in
    c.from_residual.ensures ∙ rw (eq-eqb _ _ e, sym c.number_at.ensures ∙ c.in_err-number_at.was)

pub returns-in_ok-number_at : goal.returns-in_ok-number_at
unfolding draw_in
returns-in_ok-number_at c =
    let e = sym c.field_count.ensures ∙ c.if-field_count-eq2.true in
    rw (eq-eqb _ _ e, sym c.number_at.ensures ∙ c.in_ok-number_at.was)

pub returns-else-field_count-eq2 : goal.returns-else-field_count-eq2
unfolding draw_in
returns-else-field_count-eq2 c = let e = c.field_count.ensures in rw (ne_eqb _ _ (λ p. c.if-field_count-eq2.false (e ∙ p)))
