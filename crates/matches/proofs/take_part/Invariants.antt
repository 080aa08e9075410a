use Rattle.stream.specs.Room.{Ready}
use lib.ListN.{length}
use mathlib.Core.Path.{◌≡◌}
use Prim.Native.Nat.{◌-◌}
use Rattle.matches.proofs.take_part.Given as goal

abbrev pub invariant-loop-f : goal.invariant-loop-f
invariant-loop-f l = Ready l.f.progress l.line l.image × (length l.line ≡ length l.initial.line) × (length l.image ≡ length l.initial.image)

abbrev pub decreases-loop-f : goal.decreases-loop-f
decreases-loop-f l = length l.part - l.f.at
