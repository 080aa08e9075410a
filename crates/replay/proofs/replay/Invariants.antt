-- `replay::replay` meets its contract. The invariant: the line and the image stay ready. Assumes nothing.
use Rattle.std.proofs.Common.{◌≡◌, length}
use Rattle.stream.specs.Room.{Ready}
use Rattle.replay.proofs.replay.Given as goal

abbrev pub invariant-loop : goal.invariant-loop
invariant-loop l = Ready l.reading.progress l.line l.image × (length l.line ≡ length l.initial.line) × (length l.image ≡ length l.initial.image)
