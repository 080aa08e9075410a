use mathlib.Core.Path.{ap, ◌∙◌}
use Rattle.parsing.specs.Numbers.{bound_of}
use Rattle.parsing.proofs.fields.bound_at.Goals as goal

pub returns : goal.returns
returns c = c.bound_in.ensures ∙ ap bound_of c.field-f.ensures.says
