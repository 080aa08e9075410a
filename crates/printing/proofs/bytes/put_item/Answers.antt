use native.Mathlib.Omega.{arith}
use Rattle.printing.proofs.Writing.{both}
use Rattle.printing.proofs.bytes.put_item.Goals as goal

pub returns : goal.returns
returns c = both c.put-k.ensures c.put_number.ensures (omega arith)
