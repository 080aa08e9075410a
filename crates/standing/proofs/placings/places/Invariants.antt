-- `standing::places` meets its contract. The invariant: the first i snakes have their places. Assumes nothing.
use Rattle.std.proofs.Common.{◌≡◌, ◌≤◌}
use Rattle.lists.specs.Below.{filled}
use Rattle.standing.specs.Placings.{end_placing}
use Rattle.standing.specs.Standing.{snakes_of}
use Rattle.standing.proofs.placings.places.Given as goal

abbrev pub invariant-loop-i : goal.invariant-loop-i
invariant-loop-i l = (l.i ≤ snakes_of l.m) × (l.out ≡ filled (end_placing (snakes_of l.m) l.m.deaths l.m.behind) l.i 8 0)
