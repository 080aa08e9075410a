-- `step::apply` meets its contract: the settled snakes are those of the definition, so what they lead to is its outcome (`Link`).
-- Assumes nothing.
use Rattle.step.proofs.Link.{settled_here, applied}
use Rattle.step.proofs.conclusion.apply.Goals as goal

pub conclude-requires : goal.conclude-requires
conclude-requires c = search settled_here

pub returns : goal.returns
returns c = search applied
