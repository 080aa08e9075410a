use mathlib.Core.Path.{sym, ap, ◌∙◌}
use Rattle.parsing.specs.Numbers.{bound_by, bound_of}
use Rattle.parsing.proofs.numbers.bound_in.Goals as goal

pub returns-then-is_byte : goal.returns-then-is_byte
unfolding bound_of
returns-then-is_byte c = let e = sym c.is_byte.ensures ∙ c.if-is_byte.true in rw e

pub returns-else-is_byte : goal.returns-else-is_byte
unfolding bound_of
returns-else-is_byte c = let e = sym c.is_byte.ensures ∙ c.if-is_byte.false in c.bound_by.ensures ∙ ap bound_by c.decimal.ensures ∙ rw e
