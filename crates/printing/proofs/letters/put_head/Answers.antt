use native.Mathlib.Omega.{arith}
use Rattle.printing.specs.Text.{head_text}
use Rattle.printing.proofs.Writing.{both}
use Rattle.printing.proofs.letters.put_head.Goals as goal

pub returns : goal.returns
unfolding head_text
returns c =
    let p = rw c.digit_of.ensures at c.put_two-j.ensures in
    both (both (both c.put-i.ensures p (omega arith)) c.put_item-k.ensures (omega arith)) c.put_item.ensures (omega arith)
