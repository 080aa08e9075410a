use native.Mathlib.Omega.{arith}
use Prim.Native.Nat.{ℕ}
use mathlib.Core.Path.{refl, ap, ◌∙◌}
use mathlib.Core.List.{[], ◌∷◌}
use native.Mathlib.Numerals.{add-one}
use lib.ListN.{set, length-set}
use Rattle.printing.proofs.Writing.{written}
use Rattle.lists.proofs.Writes.{sets_write}
use Rattle.printing.proofs.bytes.put_two.Goals as goal

pub bounds-out-at-2 : goal.bounds-out-at-2
bounds-out-at-2 c = simp length-set (omega arith)

pub returns : goal.returns
returns c =
    let a = c.args in
    let d = a.out.now in
    let e = ap (λ (k : ℕ). set (set d a.at a.a) k a.b) (add-one a.at) ∙ sets_write d a.at (a.a ∷ a.b ∷ []) (omega arith) in
    written 2 e refl (omega arith) (omega arith)
