use Prim.Native.Nat.{◌+◌}
use mathlib.Core.Path.{◌≡◌}
use mathlib.Core.Bool.{true}
use Rattle.lists.specs.Below.{all_below, filled}
use Rattle.parsing.specs.Fields.{fields_of}
use Rattle.parsing.specs.Lines.{is_action, action, Behind}
use Rattle.parsing.proofs.lines.actions_in.Given as goal

abbrev pub invariant-loop-k : goal.invariant-loop-k
invariant-loop-k l = Behind l.s (l.k + 1) l.at × (all_below l.k (is_action (fields_of l.s)) ≡ true) × (l.acts ≡ filled (action (fields_of l.s)) l.k 8 0)
