use native.Mathlib.Omega.{arith}
use Rattle.printing.specs.Text.{ends_text}
use Rattle.printing.proofs.Writing.{both}
use Rattle.printing.proofs.letters.put_ends.Goals as goal

pub returns : goal.returns
unfolding ends_text
returns c = both (both (both c.put_if-i.ensures c.put_if-j.ensures (omega arith)) c.put_if-k.ensures (omega arith)) c.put_if.ensures (omega arith)
