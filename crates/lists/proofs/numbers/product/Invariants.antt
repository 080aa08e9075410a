use Prim.Native.Nat.{◌<◌, ◌^◌}
use mathlib.Core.Path.{◌≡◌}
use Rattle.lists.specs.Products.{falling}
use Rattle.lists.proofs.numbers.product.Given as goal

abbrev pub invariant-loop-j : goal.invariant-loop-j
invariant-loop-j l = (l.p ≡ falling l.n l.j) × (l.p < 2 ^ 64)
