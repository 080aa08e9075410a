use mathlib.Core.Path.{ap, ◌∙◌}
use Rattle.parsing.specs.Numbers.{grid_of}
use Rattle.parsing.proofs.fields.grid_at.Goals as goal

pub returns : goal.returns
returns c = c.grid_in.ensures ∙ ap grid_of c.field-f.ensures.says
