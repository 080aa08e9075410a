-- `make_book::walk::walk` meets its contract. The invariant: the stream's buffers are ready, and every buffer has its length. Assumes nothing.
use Rattle.std.proofs.Common.{◌≡◌, length}
use Rattle.stream.specs.Room.{Ready}
use Rattle.make_book.proofs.walk.walk.Given as goal

abbrev pub invariant-loop : goal.invariant-loop
invariant-loop g l = Ready l.p.progress l.line l.image × (length l.line ≡ length l.initial.line) × (length l.image ≡ length l.initial.image) × (length l.bytes ≡ length l.initial.bytes)
