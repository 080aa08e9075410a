use mathlib.Core.Path.{ap, ◌∙◌}
use Rattle.parsing.specs.Numbers.{decimal_of}
use Rattle.parsing.proofs.fields.number_at.Goals as goal

pub returns : goal.returns
returns c = c.decimal.ensures ∙ ap decimal_of c.field-f.ensures.says
