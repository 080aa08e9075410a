-- The image of a state, in words; the state of an image; which images are well-formed (01, 'The state image'). Assumes nothing.
use Rattle.std.specs.Prelude.{ℕ, ◌+◌, ◌*◌, Bool, not, ◌&&◌, ◌||◌, List, [], ◌∷◌, ◌++◌, leb, ltb, eqb, length, get_or, take, drop}
use Rattle.lists.specs.Choice.{bit}
use Rattle.lists.specs.Below.{all_below, sum_below, each_below, concat_below}
use Rattle.lists.specs.Lists.{every, all, distinct, ascending}
use Rattle.rules.specs.Headings.{number_of, heading_of}
use Rattle.rules.specs.State.{Snake, State, count, snake_of}

-- five words, and four for each of n snakes
abbrev pub front : ℕ → ℕ
front n = 5 + 4 * n

-- ---- from a state to words

abbrev pub body_of : State → ℕ → List ℕ
body_of s i = (snake_of s i).body

-- 'starts exactly consecutive': past the contents and the bodies before it
abbrev pub start_of : State → ℕ → ℕ
start_of s i = front (count s) + length (concat_below i (body_of s))

-- 'Four words per snake: start word of its body, length, heading (0 Up, 1 Right, 2 Down, 3 Left), alive (0/1)'
abbrev pub record_of : State → ℕ → List ℕ
record_of s i = start_of s i ∷ length (body_of s i) ∷ number_of (snake_of s i).heading ∷ bit (snake_of s i).alive ∷ []

-- 'Words 0 to 4: snakes n (2..8), side g (1..32), food due (0..1,024), birth (0/1), food count'
abbrev pub contents_of : State → List ℕ
contents_of s = count s ∷ s.side ∷ s.due ∷ bit s.birth ∷ length s.food ∷ []

-- 'Bodies in snake order, head first; then food'
unfoldable pub image_of : State → List ℕ
image_of s = contents_of s ++ (concat_below (count s) (record_of s) ++ (concat_below (count s) (body_of s) ++ s.food))

-- ---- from words to a state

abbrev pub word : List ℕ → ℕ → ℕ
word w k = get_or w k 0

abbrev pub snakes_in : List ℕ → ℕ
snakes_in w = word w 0

abbrev pub side_in : List ℕ → ℕ
side_in w = word w 1

abbrev pub due_in : List ℕ → ℕ
due_in w = word w 2

abbrev pub birth_in : List ℕ → ℕ
birth_in w = word w 3

abbrev pub food_count_in : List ℕ → ℕ
food_count_in w = word w 4

abbrev pub start_at : List ℕ → ℕ → ℕ
start_at w i = word w (5 + 4 * i)

abbrev pub length_at : List ℕ → ℕ → ℕ
length_at w i = word w (6 + 4 * i)

abbrev pub heading_at : List ℕ → ℕ → ℕ
heading_at w i = word w (7 + 4 * i)

abbrev pub alive_at : List ℕ → ℕ → ℕ
alive_at w i = word w (8 + 4 * i)

-- where the body of snake i is to start; where the food is, for i = n
abbrev pub start_due : List ℕ → ℕ → ℕ
start_due w i = front (snakes_in w) + sum_below i (length_at w)

abbrev pub food_start : List ℕ → ℕ
food_start w = start_due w (snakes_in w)

-- 'A snake's body is read as the part of the image that starts at its start word'
abbrev pub body_at : List ℕ → ℕ → List ℕ
body_at w i = take (length_at w i) (drop (start_at w i) w)

abbrev pub food_at : List ℕ → List ℕ
food_at w = drop (food_start w) w

abbrev pub snake_at : List ℕ → ℕ → Snake
snake_at w i = record { heading = heading_of (heading_at w i); alive = eqb (alive_at w i) 1; body = body_at w i }

unfoldable pub state_of : List ℕ → State
state_of w = record {
  side = side_in w;
  due = due_in w;
  birth = eqb (birth_in w) 1;
  snakes = each_below (snakes_in w) (snake_at w);
  food = food_at w;
}

-- ---- well-formed words

abbrev pub area_in : List ℕ → ℕ
area_in w = side_in w * side_in w

abbrev pub between : ℕ → ℕ → ℕ → Bool
between low x high = leb low x && leb x high

-- the contents are there
unfoldable pub long_enough : List ℕ → Bool
long_enough w = leb 5 (length w) && leb (front (snakes_in w)) (length w)

-- 'snakes n (2..8), side g (1..32), food due (0..1,024), birth (0/1), food count'; 'the food count at most g²'
unfoldable pub contents_fit : List ℕ → Bool
contents_fit w =
    every
    (between 2 (snakes_in w) 8
    ∷ between 1 (side_in w) 32
    ∷ leb (due_in w) 1024
    ∷ leb (birth_in w) 1
    ∷ leb (food_count_in w) (area_in w)
    ∷ [])

-- 'each length and the food count at most g²'; 'heading (0 Up, 1 Right, 2 Down, 3 Left), alive (0/1)'; 'a living snake has a cell'
abbrev pub record_fits : List ℕ → ℕ → Bool
record_fits w i =
    every
    (leb (length_at w i) (area_in w)
    ∷ leb (heading_at w i) 3
    ∷ leb (alive_at w i) 1
    ∷ (not (eqb (alive_at w i) 1) || leb 1 (length_at w i))
    ∷ [])

-- 'ranges as above'
unfoldable pub ranges_fit : List ℕ → Bool
ranges_fit w = contents_fit w && all_below (snakes_in w) (record_fits w)

-- 'starts exactly consecutive'
unfoldable pub starts_fit : List ℕ → Bool
starts_fit w = all_below (snakes_in w) (λ i. eqb (start_at w i) (start_due w i))

-- 'no word missing or left over'
unfoldable pub total_fits : List ℕ → Bool
total_fits w = eqb (food_start w + food_count_in w) (length w)

-- 'cells below g²': every word after the contents is a cell
unfoldable pub cells_fit : List ℕ → Bool
cells_fit w = all (λ c. ltb c (area_in w)) (drop (front (snakes_in w)) w)

-- 'no cell twice in one body'
unfoldable pub bodies_fit : List ℕ → Bool
bodies_fit w = all_below (snakes_in w) (λ i. distinct (body_at w i))

-- 'food, strictly ascending'
unfoldable pub food_fits : List ℕ → Bool
food_fits w = ascending 0 (food_at w)

unfoldable pub well_formed : List ℕ → Bool
well_formed w = every (long_enough w ∷ ranges_fit w ∷ starts_fit w ∷ total_fits w ∷ cells_fit w ∷ bodies_fit w ∷ food_fits w ∷ [])
