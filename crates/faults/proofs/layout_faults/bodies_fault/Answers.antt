-- `faults::bodies_fault` meets its contract: a body with a cell twice is 55; without one 56 alone is left (`at_56`). Assumes nothing.
use mathlib.Core.Path.{refl}
use Rattle.faults.proofs.Rows.{at_55, at_56}
use Rattle.faults.proofs.layout_faults.bodies_fault.Goals as goal

pub returns-in-Some : goal.returns-in-Some
returns-in-Some c = at_55 _ c.requires.on_grid _ c.in-Some.ensures _ c.twice_at.ensures _ refl

pub returns-in-None : goal.returns-in-None
returns-in-None c = at_56 _ c.requires.on_grid c.in-None.ensures _ c.first_fall.ensures _ refl
