-- The snakes passed have moved and those after them are still.
use lib.ListN.{length}
use Rattle.judge.specs.Loops.{Filling}
use Rattle.judge.specs.Moving.{move_at}
use Rattle.judge.specs.World.{still}
use Rattle.judge.proofs.moves.move_all.Given as goal

abbrev pub invariant-loop-i : goal.invariant-loop-i
invariant-loop-i l = Filling (move_at l.image l.actions) still (length l.actions) l.i l.all
