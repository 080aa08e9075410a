-- A list of 20 cells holds whatever a draw gives: 21 cells would have more than 2^64 - 1 outcomes, which 28 refuses. Assumes nothing.
use Prim.Native.Nat.{◌-◌, ◌^◌, ◌≤◌}
use native.Mathlib.Nat.{min-le_right}
use native.Mathlib.Omega.{arith}
use mathlib.Core.Path.{◌≡◌, refl}
use lib.ListN.{length}
use Rattle.lists.specs.Products.{factorial}
use Rattle.lists.proofs.Products.{falling_mono, falling_least}
use Rattle.lists.proofs.Tests.{ordered, less, more}
use Rattle.rules.specs.State.{State}
use Rattle.rules.specs.Chance.{free, draw_size, outcomes}

many : factorial 21 ≡ 51090942171709440000
unfolding factorial
many = refl

pub longest_list : (t : State) → outcomes t ≤ 2 ^ 64 - 1 → draw_size t ≤ 20
unfolding outcomes
longest_list t h = elim (ordered (draw_size t) 21) [
  | less l e ↦ omega arith
  | more l e ↦
      let n = length (free t) in
      let k : draw_size t ≤ n = min-le_right _ _ in
      let a = falling_least n 21 (omega arith) in
      let b = falling_mono n 21 (draw_size t) l k in
      absurd (omega (arith, many))
]
