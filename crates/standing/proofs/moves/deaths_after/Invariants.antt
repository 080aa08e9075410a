-- `standing::deaths_after` meets its contract. The invariant: of the first i snakes those that die have this move, all others what they had. Assumes nothing.
use Rattle.std.proofs.Common.{ℕ, ◌≡◌, ◌<◌, ◌≤◌, length, get_or}
use Rattle.standing.specs.Standing.{death_at}
use Rattle.standing.proofs.moves.deaths_after.Given as goal

abbrev pub invariant-loop-i : goal.invariant-loop-i
invariant-loop-i l = record {
  long : length l.after ≡ length l.fn.deaths;
  below : (j : ℕ) → j < l.i → get_or l.after j 0 ≡ death_at l.k l.fn.deaths l.events j;
  rest : (j : ℕ) → l.i ≤ j → get_or l.after j 0 ≡ get_or l.fn.deaths j 0;
}
