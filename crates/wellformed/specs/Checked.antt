-- What the tests of an image have shown so far, as facts for the tests that come after them. Assumes nothing.
use Rattle.std.specs.Prelude.{ℕ, ◌+◌, ◌<◌, ◌≤◌, List, ◌≡◌, Bool, true, false, ltb, length, Option, MatchOption}
use Rattle.lists.specs.Below.{all_below}
use Rattle.lists.specs.Lists.{all}
use Rattle.boards.specs.Boards.{Under}
use Rattle.rules.specs.Image.{front, snakes_in, side_in, area_in, start_at, length_at, food_start, body_at, starts_fit}
use Rattle.wellformed.specs.declared.contents.Layout.{Layout}

-- the contents are there
pub record Long (w : List ℕ) : Type 0 where
  pub five : 5 ≤ length w
  pub records_in : front (snakes_in w) ≤ length w

-- and in range
pub record Ranged (w : List ℕ) : Type 0 where
  pub long : Long w
  pub snakes_max : snakes_in w ≤ 8
  pub side_max : side_in w ≤ 32
  pub area_max : area_in w ≤ 1024
  pub food_early : food_start w ≤ 8229

-- and the bodies and the food are where they are due
pub record Laid (w : List ℕ) : Type 0 where
  pub ranged : Ranged w
  pub food_in : food_start w ≤ length w
  pub bodies_from : (i : ℕ) → i < snakes_in w → front (snakes_in w) ≤ start_at w i
  pub bodies_in : (i : ℕ) → i < snakes_in w → start_at w i + length_at w i ≤ food_start w

-- and every cell of a body has a square of the board
pub record OnBoard (w : List ℕ) : Type 0 where
  pub laid : Laid w
  pub cells : (i : ℕ) → i < snakes_in w → Under 1024 (body_at w i)

-- whether the starts fit, and where the food starts
pub record Adds (w : List ℕ) (r : Layout) : Type 0 where
  pub starts : r.fits ≡ starts_fit w
  pub food_is : r.food ≡ food_start w

-- whether all cells of a list are below the area
pub record Below (l : List ℕ) (area : ℕ) (r : Bool) : Type 0 where
  pub says : r ≡ all (λ c. ltb c area) l

-- r is the first number below n that fails a test, none where all pass
abbrev pub FirstOut : ℕ → (ℕ → Bool) → Option ℕ → Type 0
FirstOut n fits r = MatchOption r (all_below n fits ≡ true) (λ i. (i < n) × (fits i ≡ false) × (all_below i fits ≡ true))
