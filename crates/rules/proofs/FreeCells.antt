-- The free cells of a state: they ascend, and are those below the area that are not taken. Assumes nothing.
use mathlib.Core.Path.{◌≡◌}
use mathlib.Core.Bool.{true, false}
use Prim.Native.Nat.{ℕ, ◌≤◌, ◌<◌, zero-le}
use native.Mathlib.Omega.{arith}
use lib.ListN.{length}
use Rattle.lists.specs.Lists.{member, distinct, ascending}
use Rattle.lists.proofs.Tests.{or_false_left}
use Rattle.lists.proofs.Order.{ascending_distinct, ascending_short}
use Rattle.boards.proofs.Free.{from_ascending, of_from, in_from}
use Rattle.rules.specs.State.{State, area}
use Rattle.rules.specs.Chance.{taken, free}

module _ (t : State) where
  pub free_ascending : ascending 0 (free t) ≡ true
  unfolding free
  free_ascending = from_ascending (taken t) (area t) 0 0 zero-le

  pub free_distinct : distinct (free t) ≡ true
  free_distinct = ascending_distinct 0 (free t) free_ascending

  pub free_below : (c : ℕ) → member c (free t) ≡ true → c < area t
  unfolding free
  free_below c m = let r = of_from (taken t) (area t) 0 c m in omega arith

  pub free_untaken : (c : ℕ) → member c (free t) ≡ true → taken t c ≡ false
  unfolding free
  free_untaken c m = (of_from (taken t) (area t) 0 c m).0

  pub free_member : (c : ℕ) → c < area t → taken t c ≡ false → member c (free t) ≡ true
  unfolding free
  free_member c h u = in_from (taken t) (area t) 0 c u zero-le (omega arith)

  pub free_off_food : (c : ℕ) → member c (free t) ≡ true → member c t.food ≡ false
  free_off_food c m = or_false_left (member c t.food) _ (free_untaken c m)

  pub free_short : length (free t) ≤ area t
  free_short = let r = ascending_short 0 (area t) (free t) free_ascending free_below in omega arith
