-- `wellformed::bodies_fit` meets its contract. The invariant: the bodies so far have no cell twice, and the next stamp is new to the board (`BodiesTo`).
-- Assumes nothing.
use Rattle.wellformed.proofs.Loops.{bodies_none, bodies_fail, bodies_next, bodies_all}
use Rattle.wellformed.proofs.cells.bodies_fit.Goals as goal

pub loop-i-init : goal.loop-i-init
loop-i-init c = search bodies_none

pub returns-then-not-body_once : goal.returns-then-not-body_once
returns-then-not-body_once c = search bodies_fail

pub loop-i-preserved : goal.loop-i-preserved
loop-i-preserved c = search bodies_next

pub returns : goal.returns
returns c = search bodies_all
