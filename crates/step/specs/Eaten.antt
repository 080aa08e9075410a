-- The cells eaten, as the code gathers them. Assumes nothing.
use Rattle.std.specs.Prelude.{ℕ, ◌≤◌, List, [], ◌∷◌, ◌≡◌, length}
use Rattle.lists.specs.Choice.{◌if◌else◌}
use Rattle.lists.specs.Below.{count_below, concat_below}
use Rattle.consequences.specs.declared.after.After.{After}
use Rattle.consequences.specs.After.{cells, eating}

abbrev pub bite : List After → ℕ → List ℕ
bite all i = cells all i ∷ [] if eating all i else []

-- what the first i snakes ate
pub record EatenTo (all : List After) (n i : ℕ) (cells : List ℕ) : Type 0 where
  pub few : n ≤ 8
  pub along : i ≤ n
  pub fewer : length cells ≤ i
  pub so_far : cells ≡ concat_below i (bite all)
  pub counted : length cells ≡ count_below i (eating all)

pub record EatenAre (all : List After) (n : ℕ) (r : List ℕ) : Type 0 where
  pub cells : r ≡ concat_below n (bite all)
  pub count : length r ≡ count_below n (eating all)
  pub few : length r ≤ 8
