use mathlib.Core.Path.{◌∙◌}
use borrow.Author.Tests.{le-ltb, lt-ltb}
use Rattle.parsing.specs.Lines.{read_later}
use Rattle.parsing.proofs.lines.read_later.Goals as goal

pub returns-then-s-gt200 : goal.returns-then-s-gt200
unfolding read_later
returns-then-s-gt200 c = rw (lt-ltb _ _ c.if-s-gt200.true)

pub returns-else-s-gt200 : goal.returns-else-s-gt200
unfolding read_later
returns-else-s-gt200 c = c.line_in.ensures ∙ rw (le-ltb _ _ c.if-s-gt200.false)
