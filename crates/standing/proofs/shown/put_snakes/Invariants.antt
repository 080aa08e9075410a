-- `standing::put_snakes` meets its contract. The invariant: the parts of the first i snakes are written. Assumes nothing.
use Rattle.std.proofs.Common.{◌≤◌, ◌*◌}
use Rattle.lists.specs.Below.{concat_below}
use Rattle.printing.specs.Text.{Wrote}
use Rattle.standing.specs.Shown.{snake_shown_by}
use Rattle.standing.proofs.shown.put_snakes.Given as goal

abbrev pub invariant-loop-i : goal.invariant-loop-i
invariant-loop-i l = (l.i ≤ l.n) × Wrote l.initial.out l.out l.from l.at (concat_below l.i (snake_shown_by l.image l.fn.events)) (52 * l.i)
