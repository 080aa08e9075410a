use native.Mathlib.Omega.{arith}
use borrow.Author.Tests.{eq-eqb, ne_eqb}
use Rattle.printing.proofs.Writing.{wider}
use Rattle.printing.proofs.letters.put_first.Goals as goal

pub returns-then-size-eq0 : goal.returns-then-size-eq0
returns-then-size-eq0 c = rw (eq-eqb _ _ c.if-size-eq0.true) (wider 21 c.put_two.ensures (omega arith))

pub returns-else-size-eq0 : goal.returns-else-size-eq0
returns-else-size-eq0 c = rw (ne_eqb _ _ c.if-size-eq0.false) c.put_item.ensures
