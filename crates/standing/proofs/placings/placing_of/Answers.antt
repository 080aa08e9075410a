use native.Mathlib.Omega.{arith}
use Prim.Native.Nat.{ℕ, ◌+◌}
use mathlib.Core.Path.{ap, ◌∙◌}
use Rattle.standing.specs.Placings.{placing_of, outlasts}
use Rattle.lists.proofs.Below.{count_le}
use Rattle.standing.specs.Standing.{snakes_of}
use Rattle.standing.proofs.Behind.{at_most_eight}
use borrow.Author.Tests.{eq-eqb, ne_eqb}
use Rattle.standing.proofs.placings.placing_of.Goals as goal

pub returns-then-m-i-eq0 : goal.returns-then-m-i-eq0
unfolding placing_of
returns-then-m-i-eq0 c = rw (eq-eqb _ _ c.if-m-i-eq0.true)

pub overflow_add-result : goal.overflow_add-result
overflow_add-result c = omega (arith, c.outlast_count.ensures, count_le (outlasts c.args.m.now.deaths c.args.i) (snakes_of c.args.m.now), at_most_eight c.args.m.now)

pub returns : goal.returns
unfolding placing_of
returns c = ap (λ (k : ℕ). 1 + k) c.outlast_count.ensures ∙ rw (ne_eqb _ _ c.if-m-i-eq0.false)
