-- `page_file::entry::put_move` meets its contract. The invariant: two bytes a snake stand behind the first. Assumes nothing.
use Rattle.std.proofs.Common.{◌+◌, ◌*◌, ◌≤◌}
use Rattle.page_file.proofs.entry.put_move.Given as goal

abbrev pub invariant-loop-i : goal.invariant-loop-i
invariant-loop-i l = l.at ≤ 1 + 2 * l.i
