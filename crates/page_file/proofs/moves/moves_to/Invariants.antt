-- `page_file::moves::moves_to` meets its contract. The invariant: no more moves than pages are counted. Assumes nothing.
use Rattle.std.proofs.Common.{◌≤◌}
use Rattle.page_file.proofs.moves.moves_to.Given as goal

abbrev pub invariant-loop-before : goal.invariant-loop-before
invariant-loop-before g l = l.moves ≤ l.before
