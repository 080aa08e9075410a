-- `make_book::walk::take_part` meets its contract. The invariant: the stream's buffers are ready, and every buffer has its length. The measure is what is
-- left of the part. Assumes nothing.
use Rattle.std.proofs.Common.{◌≡◌, ◌-◌, length}
use Rattle.stream.specs.Room.{Ready, Spare}
use Rattle.make_book.proofs.walk.take_part.Given as goal

abbrev pub invariant-loop-next : goal.invariant-loop-next
invariant-loop-next l = Ready l.r l.line l.image × Spare l.next l.list l.out × (length l.line ≡ length l.initial.line) × (length l.image ≡ length l.initial.image) × (length l.bytes ≡ length l.initial.bytes) × (length l.out ≡ 512)

abbrev pub decreases-loop-next : goal.decreases-loop-next
decreases-loop-next l = length l.part - l.r.at
