use mathlib.Core.Path.{sym, ◌∙◌}
use Rattle.parsing.specs.Numbers.{decimal_of}
use Rattle.parsing.proofs.numbers.decimal.Goals as goal

pub returns-then-is_unpadded : goal.returns-then-is_unpadded
unfolding decimal_of
returns-then-is_unpadded c = let e = sym c.is_unpadded.ensures ∙ c.if-is_unpadded.true in c.digits.ensures ∙ rw e

pub returns-else-is_unpadded : goal.returns-else-is_unpadded
unfolding decimal_of
returns-else-is_unpadded c = let e = sym c.is_unpadded.ensures ∙ c.if-is_unpadded.false in rw e
