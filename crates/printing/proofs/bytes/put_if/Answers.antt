use Rattle.printing.proofs.Writing.{nothing}
use Rattle.printing.proofs.bytes.put_if.Goals as goal

pub returns-then-flag : goal.returns-then-flag
returns-then-flag c = rw c.if-flag.true c.put.ensures

pub returns-else-flag : goal.returns-else-flag
returns-else-flag c = rw c.if-flag.false (nothing c.args.out.now c.args.at 1)
