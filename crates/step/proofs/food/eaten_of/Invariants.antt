-- `step::eaten_of` meets its contract: the invariant says that the cells so far are those that the snakes passed ate (`Left`).
-- Assumes nothing.
use Rattle.step.specs.Eaten.{EatenTo}
use Rattle.step.proofs.food.eaten_of.Given as goal

abbrev pub invariant-loop-a : goal.invariant-loop-a
invariant-loop-a l = EatenTo l.snakes.all l.snakes.count l.a-index l.eaten.items
