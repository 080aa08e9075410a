-- The invariant: the first j words of src are pasted over those of out from `at` on.
use Prim.Native.Nat.{◌≤◌}
use mathlib.Core.Path.{◌≡◌}
use lib.ListN.{length}
use lib.Seq.{paste}
use Rattle.lists.proofs.write_at.Given as goal

abbrev pub invariant-loop-j : goal.invariant-loop-j
invariant-loop-j l = (l.j ≤ length l.src) × (length l.out ≡ length l.initial.out) × (l.out ≡ paste l.initial.out l.at l.src l.j)
