-- The snakes passed have their hits and those after them hit nobody.
use Rattle.rules.specs.Image.{side_in}
use Rattle.rules.specs.Struck.{no_hit, hit_of}
use Rattle.judge.specs.Loops.{Filling}
use Rattle.judge.specs.World.{world}
use Rattle.struck.proofs.find_hits.Given as goal

abbrev pub invariant-loop-i : goal.invariant-loop-i
invariant-loop-i l = Filling (hit_of (side_in l.image) l.n (world l.image l.judged.moves)) no_hit l.n l.i l.hits
