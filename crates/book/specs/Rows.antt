-- The pages of a writer's row: 'the images in a row' (02, wish 1). The image at a place is the part there whose contents tell its length. Assumes nothing.
use Rattle.std.specs.Prelude.{ℕ, zero, suc, ◌+◌, min, List, length, take, drop}
use Rattle.lists.specs.Choice.{◌if◌else◌}
use Rattle.rules.specs.Image.{food_count_in, food_start, long_enough}

-- contents, bodies and food; all that is left of the row where not so much is, or where the contents are cut short
unfoldable pub told_length : List ℕ → ℕ
told_length w = min (food_start w + food_count_in w) (length w) if long_enough w else length w

-- page i starts past the pages before it
unfoldable pub row_start : List ℕ → ℕ → ℕ
row_start row zero = 0
row_start row (suc i) = let at = row_start row i in at + told_length (drop at row)

unfoldable pub row_page : List ℕ → ℕ → List ℕ
row_page row i = take (told_length (drop (row_start row i) row)) (drop (row_start row i) row)
