-- Refusals 6 and 8 over just what they depend on. Assumes nothing.
use Rattle.std.specs.Prelude.{ℕ, Ok}
use Rattle.rules.specs.Says.{Says, by_table}
use Rattle.rules.specs.Setting.{crowd_order}

abbrev pub crowd_says : ℕ → ℕ → ℕ → Says (Unit {0})
crowd_says n g f = by_table (crowd_order n g f) (Ok tt)
