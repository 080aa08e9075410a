use mathlib.Core.Path.{sym, ◌∙◌}
use borrow.Author.Tests.{le-ltb, lt-ltb, eq-eqb, ne_eqb}
use Rattle.parsing.specs.Lines.{read_first}
use Rattle.parsing.proofs.lines.read_first.Goals as goal

pub returns-then-s-gt200 : goal.returns-then-s-gt200
unfolding read_first
returns-then-s-gt200 c = rw (lt-ltb _ _ c.if-s-gt200.true)

pub returns-then-field_count-eq7 : goal.returns-then-field_count-eq7
unfolding read_first
returns-then-field_count-eq7 c = let e = sym c.field_count.ensures ∙ c.if-field_count-eq7.true in c.setting_in.ensures ∙ rw (le-ltb _ _ c.if-s-gt200.false, eq-eqb _ _ e)

pub returns-else-field_count-eq7 : goal.returns-else-field_count-eq7
unfolding read_first
returns-else-field_count-eq7 c = let e = c.field_count.ensures in rw (le-ltb _ _ c.if-s-gt200.false, ne_eqb _ _ (λ p. c.if-field_count-eq7.false (e ∙ p)))
