-- What is wrong with an image: seven faults, tested in this order, each with the first word that shows it (02, wish 4). The tests are those of
-- `well_formed`, in its order; words count from 0. Assumes nothing.
use Rattle.std.specs.Prelude.{ℕ, ◌+◌, ◌*◌, ◌-◌, min, Bool, not, ◌&&◌, ◌||◌, List, [], ◌∷◌, leb, ltb, eqb, length, get_or, take}
use Rattle.lists.specs.Choice.{◌if◌else◌}
use Rattle.lists.specs.Below.{lowest_from}
use Rattle.lists.specs.Lists.{member, distinct}
use Rattle.rules.specs.Tables.{Table}
use Rattle.rules.specs.Image.{word, front, snakes_in, side_in, due_in, birth_in, food_count_in, area_in, start_at, length_at, heading_at, alive_at, start_due, food_start, body_at, between, contents_fit, record_fits, ranges_fit, starts_fit, total_fits, cells_fit, bodies_fit, food_fits}
use Rattle.rules.specs.declared.refusal.Refusal.TheVariants as Refusal

-- the lowest number below n that fails a test
abbrev pub first_out : ℕ → (ℕ → Bool) → ℕ
first_out n fits = lowest_from (λ i. not (fits i)) 0 n

-- 50 'fewer than 5 words, or fewer than 5 + 4n where n is 2..8 (word: the first missing)'
unfoldable pub cut_short : List ℕ → Bool
cut_short w = ltb (length w) 5 || (between 2 (snakes_in w) 8 && ltb (length w) (front (snakes_in w)))

-- 51 'a content word out of range': of the first five
unfoldable pub contents_out : List ℕ → ℕ
contents_out w =
    0 if not (between 2 (snakes_in w) 8) else
    1 if not (between 1 (side_in w) 32) else
    2 if ltb 1024 (due_in w) else
    3 if ltb 1 (birth_in w) else
    4

-- of record i, 'a living snake's length 0 included (word: the length)'
unfoldable pub record_out : List ℕ → ℕ → ℕ
record_out w i =
    6 + 4 * i if ltb (area_in w) (length_at w i) || (eqb (alive_at w i) 1 && eqb (length_at w i) 0) else
    7 + 4 * i if ltb 3 (heading_at w i) else
    8 + 4 * i

unfoldable pub range_word : List ℕ → ℕ
range_word w = contents_out w if not (contents_fit w) else record_out w (first_out (snakes_in w) (record_fits w))

-- 52 'a start out of line'
unfoldable pub start_word : List ℕ → ℕ
start_word w = 5 + 4 * first_out (snakes_in w) (λ i. eqb (start_at w i) (start_due w i))

-- 53 'total length wrong (word: the first missing or left over)'
unfoldable pub total_word : List ℕ → ℕ
total_word w = min (food_start w + food_count_in w) (length w)

-- 54 'a cell beyond the grid'
unfoldable pub cell_word : List ℕ → ℕ
cell_word w = lowest_from (λ k. leb (area_in w) (word w k)) (front (snakes_in w)) (length w - front (snakes_in w))

-- 55 'a cell twice in a body': of a body, the place whose cell stood earlier in it
unfoldable pub twice_in : List ℕ → ℕ
twice_in l = lowest_from (λ k. member (get_or l k 0) (take k l)) 0 (length l)

unfoldable pub twice_word : List ℕ → ℕ
twice_word w = let i = first_out (snakes_in w) (λ i. distinct (body_at w i)) in start_at w i + twice_in (body_at w i)

-- 56 'food not ascending': the word that is not above the one before it
unfoldable pub food_word : List ℕ → ℕ
food_word w = lowest_from (λ k. leb (word w k) (word w (k - 1))) (food_start w + 1) (length w - (food_start w + 1))

-- what is asked of every image
unfoldable pub image_rows : List ℕ → Table
image_rows w =
    (Refusal.CutShort (length w), cut_short w)
    ∷ (Refusal.OutOfRange (range_word w), not (ranges_fit w))
    ∷ (Refusal.Start (start_word w), not (starts_fit w))
    ∷ (Refusal.Total (total_word w), not (total_fits w))
    ∷ (Refusal.CellBeyond (cell_word w), not (cells_fit w))
    ∷ (Refusal.CellTwice (twice_word w), not (bodies_fit w))
    ∷ (Refusal.FoodOrder (food_word w), not (food_fits w))
    ∷ []
