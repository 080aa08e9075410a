use mathlib.Core.Path.{sym, ◌∙◌}
use borrow.Author.Tests.{eq-eqb, ne_eqb}
use Rattle.parsing.specs.Lines.{move_in}
use Rattle.parsing.proofs.lines.move_in.Goals as goal

pub returns-then-field_count-n : goal.returns-then-field_count-n
unfolding move_in
returns-then-field_count-n c = let e = sym c.field_count.ensures ∙ c.if-field_count-n.true in c.actions_in.ensures ∙ rw (eq-eqb _ _ e)

pub returns-else-field_count-n : goal.returns-else-field_count-n
unfolding move_in
returns-else-field_count-n c = let e = c.field_count.ensures in rw (ne_eqb _ _ (λ p. c.if-field_count-n.false (e ∙ p)))
