use native.Mathlib.Omega.{arith}
use mathlib.Core.List.{◌++◌}
use Rattle.printing.specs.Text.{events_text, deeds_text, ends_text}
use Rattle.printing.proofs.Writing.{both, dashed, undashed}
use Rattle.printing.proofs.letters.put_events.Goals as goal

pub returns-then-j-at : goal.returns-then-j-at
unfolding events_text
returns-then-j-at c =
    let e = c.args.e in
    dashed (deeds_text e ++ ends_text e) (both c.put_deeds-i.ensures c.put_ends-j.ensures (omega arith)) c.if-j-at.true c.put.ensures (omega arith)

pub returns-else-j-at : goal.returns-else-j-at
unfolding events_text
returns-else-j-at c =
    let e = c.args.e in
    undashed (deeds_text e ++ ends_text e) (both c.put_deeds-i.ensures c.put_ends-j.ensures (omega arith)) c.if-j-at.false
