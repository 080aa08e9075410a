use mathlib.Core.Path.{◌≡◌, sym, ◌∙◌}
use native.Mathlib.Omega.{arith}
use Rattle.lists.proofs.Fitted.{product_over, product_done}
use Rattle.lists.proofs.Products.{falling_none, falling_next}
use Rattle.lists.proofs.numbers.product.Goals as goal

pub loop-j-init : goal.loop-j-init
loop-j-init c = (sym (falling_none c.args.n), omega arith)

pub returns-in_err-p : goal.returns-in_err-p
returns-in_err-p c =
    let s = c.loop-j in
    let a = c.args in
    c.from_residual.ensures
    ∙ product_over a.n a.k s.j s.p c.loop-j-test.true c.requires s.invariant.0 (omega (arith, c.in_err-p.ensures))

pub loop-j-preserved : goal.loop-j-preserved
loop-j-preserved c =
    let s = c.loop-j in
    let h = c.in_ok-p.ensures in
    (h.1 ∙ rw s.invariant.0 (sym (falling_next c.args.n s.j)), omega arith)

pub returns : goal.returns
returns c =
    let s = c.loop-j in
    let a = c.args in
    let e : s.j ≡ a.k = omega arith in
    product_done a.n a.k s.p (rw e at s.invariant.0) s.invariant.1
