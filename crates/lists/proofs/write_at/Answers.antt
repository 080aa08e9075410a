-- The invariant: the first j words of src are pasted over those of out from `at` on.
use Prim.Native.Nat.{ℕ, ◌<◌, ◌+◌}
use mathlib.Core.Path.{◌≡◌, refl, ap, ◌∙◌}
use mathlib.Core.List.{List}
use native.Mathlib.Omega.{arith}
use lib.ListN.{length, get_or, set, length-set}
use lib.Seq.{paste, paste-zero}
use Rattle.lists.proofs.Writes.{paste_all, paste_more}
use Rattle.lists.proofs.write_at.Goals as goal

pub loop-j-init : goal.loop-j-init
loop-j-init c = (omega arith, refl, paste-zero c.args.out.now c.args.at c.args.src.now)

pub loop-j-preserved : goal.loop-j-preserved
loop-j-preserved c =
    let i = c.loop-j.invariant in
    let j = c.loop-j.j in
    let a = c.args in
    let d = a.out.now in
    let s = a.src.now in
    let in-out : a.at + j < length d = omega arith in
    (omega arith, simp length-set i.1, ap (λ (l : List ℕ). set l (a.at + j) (get_or s j 0)) i.2 ∙ paste_more d a.at s j 0 in-out (omega arith))

pub returns : goal.returns
returns c =
    let a = c.args in
    let e : c.loop-j.j ≡ length a.src.now = omega arith in
    c.loop-j.invariant.2 ∙ ap (λ (k : ℕ). paste a.out.now a.at a.src.now k) e ∙ paste_all a.out.now a.at a.src.now
