use native.Mathlib.Omega.{arith}
use Rattle.printing.specs.Text.{body_text}
use Rattle.printing.proofs.Writing.{both}
use Rattle.printing.proofs.letters.put_body.Goals as goal

pub returns : goal.returns
unfolding body_text
returns c =
    let p = rw c.digit_of.ensures at c.put_two-i.ensures in
    both (both p c.put_item-j.ensures (omega arith)) c.put_first.ensures (omega arith)
