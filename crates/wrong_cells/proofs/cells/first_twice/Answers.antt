-- `wrong_cells::first_twice` meets its contract. The invariant: the bodies so far have no cell twice, and the next stamp is new to the board (`BodiesTo`).
-- Assumes nothing.
use Rattle.wellformed.proofs.Loops.{bodies_none, bodies_next}
use Rattle.wrong_cells.proofs.Finding.{twice_here, twice_none}
use Rattle.wrong_cells.proofs.cells.first_twice.Goals as goal

pub loop-i-init : goal.loop-i-init
loop-i-init c = search bodies_none

pub returns-then-not-body_once : goal.returns-then-not-body_once
returns-then-not-body_once c = search twice_here

pub loop-i-preserved : goal.loop-i-preserved
loop-i-preserved c = search bodies_next

pub returns : goal.returns
returns c = search twice_none
