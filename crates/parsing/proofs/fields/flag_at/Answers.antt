use mathlib.Core.Path.{ap, ◌∙◌}
use Rattle.parsing.specs.Numbers.{flag_of, flag_by}
use Rattle.parsing.proofs.fields.flag_at.Goals as goal

pub returns : goal.returns
unfolding flag_of
returns c = c.flag_by.ensures ∙ ap flag_by c.number_at.ensures
