-- The snakes passed are judged on the world of all moves, and those after them are unharmed.
use Rattle.std.specs.Prelude.{None}
use Rattle.rules.specs.Image.{side_in}
use Rattle.rules.specs.Step.{cause_of}
use Rattle.judge.specs.Loops.{Filling}
use Rattle.judge.specs.World.{world}
use Rattle.judge.proofs.causes.judge.Given as goal

abbrev pub invariant-loop-i : goal.invariant-loop-i
invariant-loop-i l = Filling (cause_of (side_in l.image) l.n (world l.image l.moves)) None l.n l.i l.causes
