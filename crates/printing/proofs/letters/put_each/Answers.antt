use Prim.Native.Nat.{◌+◌, ◌*◌}
use mathlib.Core.Path.{◌≡◌}
use lib.ListN.{length}
use Rattle.printing.proofs.Writing.{both, wider, nothing}
use Rattle.lists.proofs.Below.{concat_none, concat_next}
use native.Mathlib.Omega.{arith}
use Rattle.printing.proofs.letters.put_each.Goals as goal

pub loop-place-init : goal.loop-place-init
loop-place-init c = rw concat_none (nothing c.args.out.now c.args.from 0)

pub loop-place-preserved : goal.loop-place-preserved
loop-place-preserved c =
    let l = c.loop-place in
    rw concat_next (wider (21 * (l.place-index + 1)) (both l.invariant c.put_item-at.ensures (omega arith)) (omega arith))

pub returns : goal.returns
returns c =
    let l = c.loop-place in
    let e : l.place-index ≡ length c.args.places.now = omega arith in
    wider 168 (rw e at l.invariant) (omega arith)
