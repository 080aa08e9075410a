-- Chance (01, 'Chance'): the free cells, how many outcomes a draw has, what an index draws, and the index of a list. Assumes nothing.
use Rattle.std.specs.Prelude.{ℕ, zero, suc, ◌+◌, ◌*◌, ◌-◌, ◌/◌, ◌%◌, min, Bool, not, ◌&&◌, ◌||◌, List, [], ◌∷◌, ◌++◌, eqb, length, get_or}
use Rattle.lists.specs.Choice.{◌if◌else◌}
use Rattle.lists.specs.Below.{some_below}
use Rattle.lists.specs.Lists.{all, member, distinct, insert, without, place}
use Rattle.lists.specs.Products.{falling}
unfoldable pub use Rattle.boards.specs.Free.{free_from}
use Rattle.rules.specs.State.{State, count, area}
use Rattle.rules.specs.Image.{body_of}

-- 'Free cells are those with neither food nor any body, corpses included, in row-major order'
abbrev pub taken : State → ℕ → Bool
taken s c = member c s.food || some_below (count s) (λ i. member c (body_of s i))

unfoldable pub free : State → List ℕ
free s = free_from (taken s) 0 (area s)

-- 'k = min(due, n), or min(1, n) at birth'
abbrev pub draws_of : State → ℕ → ℕ
draws_of s n = min (1 if s.birth else s.due) n

-- how many cells a draw takes
abbrev pub draw_size : State → ℕ
draw_size s = draws_of s (length (free s))

-- 'Count = product of k factors from n downward (1 when k = 0)'
unfoldable pub outcomes : State → ℕ
outcomes s = falling (length (free s)) (draw_size s)

-- 'An index is read in mixed radix, the last draw lowest with base n-k+1': k digits of i, the first draw first
unfoldable pub digits : ℕ → ℕ → ℕ → List ℕ
digits n zero i = []
digits n (suc k) i = digits n k (i / (n - k)) ++ (i % (n - k) ∷ [])

-- 'each digit picks among cells still free'
unfoldable pub pick : List ℕ → List ℕ → List ℕ
pick cells [] = []
pick cells (d ∷ ds) = get_or cells d 0 ∷ pick (without (get_or cells d 0) cells) ds

-- k different cells of a list, by an index
unfoldable pub drawn_from : List ℕ → ℕ → ℕ → List ℕ
drawn_from cells k i = pick cells (digits (length cells) k i)

-- 'The ordered list of the cells drawn'
unfoldable pub drawn : State → ℕ → List ℕ
drawn s i = drawn_from (free s) (draw_size s) i

-- the food with the cells of a list, each in its place
unfoldable pub with_food : List ℕ → List ℕ → List ℕ
with_food food [] = food
with_food food (c ∷ cs) = with_food (insert c food) cs

-- 'A birth draw takes 1 from due, or sets it to 0 when n = 0; birth stays unless due was 1 or n was 0'; another draw leaves nothing due (`apply_chance_node`)
unfoldable pub after_draw : State → ℕ → State
after_draw s i =
    let none = eqb (length (free s)) 0 in
    record {
      side = s.side;
      due = s.due - 1 if s.birth && not none else 0;
      birth = s.birth && not (none || eqb s.due 1);
      snakes = s.snakes;
      food = with_food s.food (drawn s i);
    }

-- 'Ranking a list answers the index whose draw gives that list': its first cell's place is the highest digit
unfoldable pub rank_in : List ℕ → List ℕ → ℕ
rank_in cells [] = 0
rank_in cells (c ∷ l) = place c cells * falling (length (without c cells)) (length l) + rank_in (without c cells) l

unfoldable pub rank_of : State → List ℕ → ℕ
rank_of s l = rank_in (free s) l

-- not 'wrong length, a cell not free, or repeated'
unfoldable pub can_rank : State → List ℕ → Bool
can_rank s l = eqb (length l) (draw_size s) && all (λ c. member c (free s)) l && distinct l
