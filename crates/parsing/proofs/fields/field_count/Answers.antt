-- A field more than there are spaces.
use Prim.Native.Nat.{ℕ}
use mathlib.Core.Path.{◌≡◌}
use native.Mathlib.Omega.{arith}
use borrow.Author.Rules.{rules}
use lib.Dec.{eqb}
use Rattle.std.specs.List.{count_by}
use Rattle.parsing.proofs.Cutting.{pieces_counted}
use Rattle.parsing.proofs.fields.field_count.Goals as goal

pub returns : goal.returns
returns c =
    let s = c.args.s.now in
    let n : c.count.result ≡ count_by (λ (x : ℕ). eqb x 32) s = search rules in
    omega (arith, n, pieces_counted 32 s)
