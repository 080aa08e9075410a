-- The words of an image after a draw. Assumes nothing.
use Rattle.std.specs.Prelude.{ℕ, ◌+◌, ◌-◌, ◌≤◌, Bool, List, ◌∷◌, ◌++◌, length, take, drop}
use Rattle.lists.specs.Choice.{bit}
use Rattle.rules.specs.Image.{snakes_in, side_in, food_count_in, food_start, food_at}
use Rattle.rules.specs.Facts.{Sound}
use Rattle.rules.specs.Chance.{with_food}
use Rattle.cells.specs.Writers.{Fresh}

-- due, birth and food count anew, and the food with the cells
unfoldable pub next_words : List ℕ → ℕ → Bool → List ℕ → List ℕ
next_words w due birth cells =
    snakes_in w ∷ side_in w ∷ due ∷ bit birth ∷ (food_count_in w + length cells) ∷ (take (food_start w - 5) (drop 5 w) ++ with_food (food_at w) cells)

-- new cells for the food of a checked image, and room for them
pub record Growing (w : List ℕ) (due : ℕ) (cells : List ℕ) (room : ℕ) : Type 0 where
  pub sound : Sound w
  pub due_max : due ≤ 1024
  pub few : length cells ≤ 1024
  pub words : length w + length cells ≤ room
  pub fresh : Fresh (food_at w) cells
