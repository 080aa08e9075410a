-- `bindings::tell_space` meets its contract: each case of the answer (`Saying`). Assumes nothing.
use borrow.Author.Rules.{rules}
use Rattle.bindings.proofs.Saying.{box_told, discrete_told, space_refused}
use Rattle.bindings.proofs.views.tell_space.Goals as goal

pub returns-in-Ok-Box : goal.returns-in-Ok-Box
returns-in-Ok-Box c = search (rules, box_told)

pub returns-in-Ok-Discrete : goal.returns-in-Ok-Discrete
returns-in-Ok-Discrete c = search (rules, discrete_told)

pub returns-in-Err : goal.returns-in-Err
returns-in-Err c = search space_refused
