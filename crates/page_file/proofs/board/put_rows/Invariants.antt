-- `page_file::board::put_rows` meets its contract. The invariant: a row has at most 32 squares, and those of the rows to come are left. Assumes nothing.
use Rattle.std.proofs.Common.{◌+◌, ◌*◌, ◌≤◌, length}
use Rattle.page_file.proofs.board.put_rows.Given as goal

abbrev pub invariant-loop-row : goal.invariant-loop-row
invariant-loop-row l = 1024 ≤ length l.rest + 32 * l._row
