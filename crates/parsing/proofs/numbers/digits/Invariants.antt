use Prim.Native.Nat.{◌<◌}
use mathlib.Core.Path.{◌≡◌}
use lib.ListN.{drop}
use Rattle.parsing.specs.Numbers.{all_digits, read_on}
use Rattle.parsing.proofs.numbers.digits.Given as goal

abbrev pub invariant-loop-b : goal.invariant-loop-b
invariant-loop-b l = (l.v < 18446744073709551616) × (all_digits (drop l.b-index l.s) ≡ all_digits l.s) × (read_on l.v (drop l.b-index l.s) ≡ read_on 0 l.s)
