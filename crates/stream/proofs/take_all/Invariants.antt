-- `stream::take_all` meets its contract. The invariant: the buffers are ready, and what was taken so far was taken step by step. The measure is what is
-- left of the part. Assumes nothing.
use Rattle.std.proofs.Common.{◌≡◌, ◌-◌, length}
use Rattle.stream.specs.Room.{Ready, Spare}
use Rattle.stream.proofs.Taking.{Stepped}
use Rattle.stream.proofs.take_all.Given as goal

abbrev pub invariant-loop-r : goal.invariant-loop-r
invariant-loop-r l = Ready l.r l.line l.image × Spare l.next l.list l.out × Stepped l.part l.initial.r l.initial.line l.initial.image l.r l.line l.image × (length l.line ≡ length l.initial.line) × (length l.image ≡ length l.initial.image) × (length l.out ≡ 512)

abbrev pub decreases-loop-r : goal.decreases-loop-r
decreases-loop-r l = length l.part - l.r.at
