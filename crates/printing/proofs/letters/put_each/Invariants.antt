use Prim.Native.Nat.{◌*◌}
use Rattle.printing.specs.Text.{Wrote, placing_text}
use Rattle.lists.specs.Below.{concat_below}
use Rattle.printing.proofs.letters.put_each.Given as goal

abbrev pub invariant-loop-place : goal.invariant-loop-place
invariant-loop-place l = Wrote l.initial.out l.out l.from l.at (concat_below l.place-index (placing_text l.places)) (21 * l.place-index)
