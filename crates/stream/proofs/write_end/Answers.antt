use mathlib.Core.Path.{refl, sym, ◌∙◌}
use mathlib.Core.Bool.{true≢false}
use borrow.Author.Tests.{not-true, not-false}
use Rattle.stream.proofs.write_end.Goals as goal

pub returns-then-not-r : goal.returns-then-not-r
returns-then-not-r c =
    let e = not-true c.args.r.on c.if-not-r.true in
    record { closed = λ o. absurd (true≢false (sym o ∙ e)); stopped = λ o. refl }

pub returns : goal.returns
returns c =
    let e = not-false c.args.r.on c.if-not-r.false in
    record {
      closed = λ o. record { out = c.args.out.now; exit = c.close.new.out; count = c.close.result; wrote = c.close.ensures; prints = refl };
      stopped = λ o. absurd (true≢false (sym e ∙ o));
    }
