-- `matches::replay_all` meets its contract. The invariant: the line and the image stay ready. Assumes nothing.
use Rattle.std.proofs.Common.{◌≡◌, length}
use Rattle.stream.specs.Room.{Ready}
use Rattle.matches.proofs.replay_all.Given as goal

abbrev pub invariant-loop : goal.invariant-loop
invariant-loop l = Ready l.f.progress l.line l.image × (length l.line ≡ length l.initial.line) × (length l.image ≡ length l.initial.image)
