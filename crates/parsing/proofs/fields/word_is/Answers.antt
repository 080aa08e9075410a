use mathlib.Core.Path.{ap, ◌∙◌}
use Rattle.parsing.specs.Numbers.{is_byte}
use Rattle.parsing.proofs.fields.word_is.Goals as goal

pub returns : goal.returns
returns c = c.is_byte.ensures ∙ ap (is_byte c.args.b) c.field-f.ensures.says
