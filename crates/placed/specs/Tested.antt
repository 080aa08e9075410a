-- What the functions that place the first bodies ensure. Assumes nothing.
use Rattle.std.specs.Prelude.{ℕ, ◌≡◌, List, Ok}
use Rattle.lists.specs.Lists.{write_at}
use Rattle.rules.specs.Says.{Says}

-- what is said, and the cells of all bodies where nothing is refused
pub record Tested (said : Says (Unit {0})) (cells old new : List ℕ) (r : Says (Unit {0})) : Type 0 where
  pub says : r ≡ said
  pub words : r ≡ Ok tt → new ≡ write_at old 0 cells
