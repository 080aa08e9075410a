use Prim.Native.Nat.{◌+◌, ◌≤◌}
use mathlib.Core.Path.{◌≡◌}
use lib.ListN.{drop, length}
use Rattle.parsing.specs.Fields.{pieces_from, fields_of}
use Rattle.parsing.proofs.fields.start_of.Given as goal

abbrev pub invariant-loop : goal.invariant-loop
invariant-loop l = (l.at ≤ length l.s + 1) × (pieces_from 32 l.s l.at ≡ drop l.counter (fields_of l.s))
