-- What the outcome of a unit number says: by its table of refusals, or the index. Assumes nothing.
use Rattle.std.specs.Prelude.{ℕ, Float, Ok}
use Rattle.rules.specs.Says.{Says, by_table}
use Rattle.unit.specs.UnitNumber.{outcome_of}
use Rattle.unit.specs.Orders.{outcome_order}

-- c is the count that an outcome is wanted of
unfoldable pub outcome_says : ℕ → Float → Says ℕ
outcome_says c u = by_table (outcome_order c u) (Ok (outcome_of c u))
