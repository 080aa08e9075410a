use native.Mathlib.Omega.{arith}
use Prim.Native.Nat.{ℕ}
use mathlib.Core.Path.{◌≡◌, ap, ◌∙◌}
use mathlib.Core.List.{◌∷◌}
use lib.ListN.{length, take}
use lib.Seq.{get_or-take, length-take-le}
use Rattle.lists.specs.Below.{concat_below}
use Rattle.lists.proofs.Below.{concat_ext}
use Rattle.printing.specs.Text.{decimal_text, placing_text, placings_text}
use Rattle.printing.proofs.Writing.{both}
use Rattle.printing.proofs.letters.put_placings.Goals as goal

pub returns : goal.returns
unfolding placings_text
returns c =
    let a = c.args in
    let long : length (take a.n a.all) ≡ a.n = length-take-le a.n a.all (omega arith) in
    let same : concat_below (length (take a.n a.all)) (placing_text (take a.n a.all)) ≡ concat_below a.n (placing_text a.all) =
    ap (λ (k : ℕ). concat_below k (placing_text (take a.n a.all))) long
    ∙ concat_ext a.n (placing_text (take a.n a.all)) (placing_text a.all) (λ i l. ap (λ (x : ℕ). 32 ∷ decimal_text x) (get_or-take a.n a.all i 0 l)) in
    both (both c.put-i.ensures (rw same at c.put_each-j.ensures) (omega arith)) c.put.ensures (omega arith)
