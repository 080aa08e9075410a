use native.Mathlib.Omega.{arith}
use Prim.Native.Nat.{◌-◌}
use mathlib.Core.Path.{◌≡◌, ap, ◌∙◌}
use borrow.Author.Tests.{eq-eqb, ne_eqb}
use native.Mathlib.Nat.{le_of_eq}
use lib.Seq.{take_all}
use lib.ListN.{length, take, drop, length-drop, get_or-eq_default}
use Rattle.parsing.specs.Numbers.{grid_of, grid_above, grid_below, decimal_of}
use Rattle.parsing.proofs.numbers.grid_in.Goals as goal

pub returns-then-s-eq0 : goal.returns-then-s-eq0
unfolding grid_of
returns-then-s-eq0 c = c.grid_above.ensures ∙ ap grid_above c.decimal.ensures ∙ rw (get_or-eq_default c.args.s.now 0 {n = 0} (omega arith))

pub returns-then-s-eq45 : goal.returns-then-s-eq45
unfolding grid_of
returns-then-s-eq45 c =
    let s = c.args.s.now in
    let e : take (length s - 1) (drop 1 s) ≡ drop 1 s = take_all (length s - 1) (drop 1 s) (le_of_eq (length-drop 1 s)) in
    c.grid_below.ensures ∙ ap grid_below (c.decimal-then-s-eq45.ensures ∙ ap decimal_of e) ∙ rw (eq-eqb _ _ c.if-s-eq45.true)

pub returns : goal.returns
unfolding grid_of
returns c = c.grid_above-2.ensures ∙ ap grid_above c.decimal-2.ensures ∙ rw (ne_eqb _ _ c.if-s-eq45.false)
