-- `standing::outlast_count` meets its contract. The invariant: so many of the first j snakes outlive snake i. Assumes nothing.
use mathlib.Core.Path.{◌≡◌, sym, ap, ◌∙◌}
use Prim.Native.Nat.{ℕ}
use native.Mathlib.Omega.{arith}
use borrow.Author.Rules.{rules}
use Rattle.lists.specs.Below.{count_below}
use Rattle.lists.proofs.Below.{count_none, count_next, count_le}
use Rattle.standing.specs.Placings.{outlasts}
use Rattle.standing.specs.Standing.{snakes_of}
use Rattle.standing.proofs.Behind.{at_most_eight}
use Rattle.standing.proofs.placings.outlast_count.Goals as goal

pub loop-j-init : goal.loop-j-init
loop-j-init c = (search rules, sym (count_none _))

pub more_if-k-requires : goal.more_if-k-requires
more_if-k-requires c = let m = c.args.m.now in omega (arith, c.loop-j.invariant.1, count_le (outlasts m.deaths c.args.i) c.loop-j.j, at_most_eight m)

pub loop-j-preserved : goal.loop-j-preserved
loop-j-preserved c =
    let l = c.loop-j in
    let f = outlasts c.args.m.now.deaths c.args.i in
    (search rules, c.more_if-k.ensures ∙ rw (c.does_outlive.ensures, l.invariant.1) (sym (count_next f l.j)))

pub returns : goal.returns
returns c =
    let m = c.args.m.now in
    let e : c.loop-j.j ≡ snakes_of m = search rules in
    c.loop-j.invariant.1 ∙ ap (λ (k : ℕ). count_below k (outlasts m.deaths c.args.i)) e
