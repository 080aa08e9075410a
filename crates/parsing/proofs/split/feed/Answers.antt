use lib.ListN.{length}
use Rattle.lists.proofs.Writes.{length_write}
use Rattle.parsing.proofs.Feeding.{fed_over, fed_past, fed_on}
use native.Mathlib.Omega.{arith}
use mathlib.Core.Path.{refl, ap, ◌∙◌}
use Rattle.parsing.proofs.split.feed.Goals as goal
use Rattle.parsing.proofs.split.feed.Goals.{then-fill-gt200-via-then-fill-gt200, then-fill-gt200-via-else-fill-gt200+then-fill-part}

pub returns-then-fill-gt200 : goal.returns-then-fill-gt200
returns-then-fill-gt200 c =
    let a = c.args in
    record {
      most = omega arith;
      long = refl;
      holds = λ s h. elim c.then-fill-gt200.branch [
        | then-fill-gt200-via-then-fill-gt200 w ↦ fed_over a.line.now s a.part.now a.fill h w.if-fill-gt200.true
        | then-fill-gt200-via-else-fill-gt200+then-fill-part w ↦ fed_past a.line.now s a.part.now a.fill h w.if-fill-gt200.false w.if-fill-part.true
      ];
    }

pub returns : goal.returns
returns c =
    let a = c.args in
    let e = c.write_at.ensures in
    record {
      most = omega arith;
      long = ap length e ∙ length_write a.line.now a.fill a.part.now (omega arith);
      holds = λ s h. rw e (fed_on a.line.now s a.part.now a.fill h c.if-fill-gt200.false c.if-fill-part.false (omega arith));
    }
