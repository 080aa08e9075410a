use native.Mathlib.Omega.{arith}
use Rattle.printing.specs.Text.{refusal_text}
use Rattle.printing.proofs.Writing.{both}
use Rattle.printing.proofs.letters.put_refusal.Goals as goal

pub returns : goal.returns
unfolding refusal_text
returns c = both (both c.put-i.ensures c.put_item-j.ensures (omega arith)) c.put.ensures (omega arith)
