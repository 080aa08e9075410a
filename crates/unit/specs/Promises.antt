-- The promise of the outcome of a unit number. Assumes nothing.
use Rattle.std.specs.Prelude.{◌≡◌, ℕ, Float}
use Rattle.unit.specs.Calls.{outcome_says}
use Rattle.rules.specs.Says.{Says}

pub record Chooses (c : ℕ) (u : Float) (r : Says ℕ) : Type 0 where
  pub answer : r ≡ outcome_says c u
