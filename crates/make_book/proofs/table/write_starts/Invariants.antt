-- `make_book::table::write_starts` meets its contract. The invariant: i pages of at most 65,535 words each lie before `at`, so that every start is below
-- 2^32. Assumes nothing.
use Rattle.std.proofs.Common.{◌+◌, ◌*◌, ◌≤◌, length}
use Rattle.make_book.proofs.table.write_starts.Given as goal

abbrev pub invariant-loop-i : goal.invariant-loop-i
invariant-loop-i l = l.at ≤ 17 + 2 * length l.lengths + 65535 * l.i
