use mathlib.Core.Path.{sym, ◌∙◌}
use Rattle.parsing.specs.Lines.{line_in}
use Rattle.parsing.proofs.lines.line_in.Goals as goal

pub returns-then-word_is : goal.returns-then-word_is
unfolding line_in
returns-then-word_is c = let e = sym c.word_is.ensures ∙ c.if-word_is.true in c.draw_in.ensures ∙ rw e

pub returns-else-word_is-2 : goal.returns-else-word_is-2
unfolding line_in
returns-else-word_is-2 c = let e = sym c.word_is.ensures ∙ c.if-word_is.false in let f = sym c.word_is-else-word_is.ensures ∙ c.if-word_is-2.false in rw (e, f)

pub returns-then-word_is-2 : goal.returns-then-word_is-2
unfolding line_in
returns-then-word_is-2 c = let e = sym c.word_is.ensures ∙ c.if-word_is.false in let f = sym c.word_is-else-word_is.ensures ∙ c.if-word_is-2.true in c.move_in.ensures ∙ rw (e, f)
