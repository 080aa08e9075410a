-- The directions that are left do not change while a shut one is passed.
use mathlib.Core.Path.{◌≡◌}
use lib.IntN.{pos}
use lib.ListN.{drop}
use Rattle.rules.specs.Placement.{tracing, unblocked}
use Rattle.placement.proofs.trace.walk_on.Given as goal

abbrev pub invariant-loop-turn : goal.invariant-loop-turn
invariant-loop-turn l = unblocked (pos l.g) (drop l.from.turn (tracing l.even)) l.from.place ≡ unblocked (pos l.g) (drop l.turn (tracing l.even)) l.from.place
