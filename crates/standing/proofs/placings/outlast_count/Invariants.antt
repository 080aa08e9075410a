-- How many of the first j snakes outlive snake i.
use Prim.Native.Nat.{◌≤◌}
use mathlib.Core.Path.{◌≡◌}
use Rattle.lists.specs.Below.{count_below}
use Rattle.standing.specs.Placings.{outlasts}
use Rattle.standing.specs.Standing.{snakes_of}
use Rattle.standing.proofs.placings.outlast_count.Given as goal

abbrev pub invariant-loop-j : goal.invariant-loop-j
invariant-loop-j l = (l.j ≤ snakes_of l.m) × (l.k ≡ count_below l.j (outlasts l.m.deaths l.i))
