use native.Mathlib.Omega.{arith}
use mathlib.Core.Path.{refl}
use mathlib.Core.List.{[], ◌∷◌}
use Rattle.printing.proofs.Writing.{written}
use Rattle.lists.proofs.Writes.{sets_write}
use Rattle.printing.proofs.bytes.put.Goals as goal

pub returns : goal.returns
returns c = written 1 (sets_write c.args.out.now c.args.at (c.args.b ∷ []) (omega arith)) refl (omega arith) (omega arith)
