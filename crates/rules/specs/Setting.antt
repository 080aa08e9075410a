-- The check of a setting, refusals 1 to 12 without 7, and the initial state (01, 'Numbers a refusal gives' and 'Modules' 2). Assumes nothing.
use Rattle.std.specs.Prelude.{ℕ, ◌*◌, ◌-◌, ◌^◌, min, Bool, true, false, not, cond, ◌&&◌, ◌||◌, List, [], ◌∷◌, ◌++◌, map, ltb, eqb, length, take, drop, ℤ, pos, negsuc, Option, Some, None}
use Rattle.std.specs.Int.Signed.{lt_z}
use Rattle.lists.specs.Below.{some_below, each_below, concat_below}
use Rattle.lists.specs.Lists.{any}
use Rattle.lists.specs.Products.{falling}
use Rattle.rules.specs.Tables.{Table, fault}
use Rattle.rules.specs.Grid.{inside, same, cell_of}
use Rattle.rules.specs.Placement.{placed, start_heading}
use Rattle.rules.specs.State.{Snake, State}
use Rattle.rules.specs.declared.Setting.{Setting}
use Rattle.rules.specs.declared.Place.{Place}
use Rattle.rules.specs.declared.refusal.Refusal.TheVariants as Refusal

abbrev pub is_set : Option ℕ → Bool
is_set None = false
is_set (Some k) = true

abbrev pub is_zero : Option ℕ → Bool
is_zero None = false
is_zero (Some k) = eqb k 0

-- the grid's side: 0 where the grid is negative
abbrev pub side_of : ℤ → ℕ
side_of (pos g) = g
side_of (negsuc g) = 0

-- 'g² (0 when g < 0)'
abbrev pub area_of : Setting → ℕ
area_of s = side_of s.grid_size * side_of s.grid_size

-- 'product g²(g²-1).. of min(snakes, food) factors'
abbrev pub worst : ℕ → ℕ → ℕ → ℕ
worst n g f = falling (g * g) (min n f)

-- 'some body cannot be traced to its length', of n bodies of k places
abbrev pub some_short : ℤ → ℕ → ℕ → Bool
some_short g n k = some_below n (λ i. ltb (length (placed g n k i)) k)

-- n bodies of k places, one after the other: 'in snake then body order'
abbrev pub all_placed : ℤ → ℕ → ℕ → List Place
all_placed g n k = concat_below n (placed g n k)

-- 'first bad cell, in snake then body order: outside / already taken'; 0 where there is none
unfoldable pub bad_cell : ℤ → List Place → List Place → ℕ
bad_cell g before [] = 0
bad_cell g before (p ∷ ps) = let r = bad_cell g (p ∷ before) ps in cond (inside g p) (cond (any (same p) before) 11 r) 10

-- 6 'food above g² (0 when g < 0)', 8 'product .. above 2^53': f food for n snakes on side g
abbrev pub crowd_order : ℕ → ℕ → ℕ → Table
crowd_order n g f = (Refusal.FoodArea, ltb (g * g) f) ∷ (Refusal.Product, ltb (2 ^ 53) (worst n g f)) ∷ []

-- 1 'snakes not 2..8', 2 'initial length 0', 3 'food lead 0', 4 'food lead set, snakes not 2', 5 'grid above 32', then 6 and 8: the numbers of a setting
abbrev pub limits_order : Setting → Table
limits_order s =
    (Refusal.Snakes, ltb s.num_snakes 2 || ltb 8 s.num_snakes)
    ∷ (Refusal.LengthZero, eqb s.initial_length 0)
    ∷ (Refusal.LeadZero, is_zero s.win_food_lead)
    ∷ (Refusal.LeadNotTwo, is_set s.win_food_lead && not (eqb s.num_snakes 2))
    ∷ (Refusal.Grid, lt_z (pos 32) s.grid_size)
    ∷ crowd_order s.num_snakes (side_of s.grid_size) s.initial_food_count

-- 9 'some body cannot be traced to its length', 10 / 11 'first bad cell', 12 'food above the free cells': the places of n bodies of k, for f food
abbrev pub places_order : ℤ → ℕ → ℕ → ℕ → Table
places_order g n k f =
    (Refusal.Untraceable, some_short g n k)
    ∷ (Refusal.CellOutside, eqb (bad_cell g [] (all_placed g n k)) 10)
    ∷ (Refusal.CellTaken, eqb (bad_cell g [] (all_placed g n k)) 11)
    ∷ (Refusal.FoodFree, ltb (side_of g * side_of g - length (all_placed g n k)) f)
    ∷ []

-- 'Setting: 1 to 12 as listed', but for 7
abbrev pub setting_order : Setting → Table
setting_order s = limits_order s ++ places_order s.grid_size s.num_snakes s.initial_length s.initial_food_count

-- 01's own table: 7 'food above 10,000' stands between 6 and 8. It is never given (02), so that no call asks it, and its number stays unused
abbrev pub chain_order : Setting → Table
chain_order s = take 6 (setting_order s) ++ ((Refusal.Chain, ltb 10000 s.initial_food_count) ∷ drop 6 (setting_order s))

-- the number, and 0 for an accepted setting
unfoldable pub setting_check : Setting → ℕ
setting_check s = fault (setting_order s)

abbrev pub start_snake : Setting → ℕ → Snake
start_snake s i = record { heading = start_heading i; alive = true; body = map (cell_of (side_of s.grid_size)) (placed s.grid_size s.num_snakes s.initial_length i) }

-- 'At start food due = food, birth = food > 0'
unfoldable pub initial_state : Setting → State
initial_state s = record {
  side = side_of s.grid_size;
  due = s.initial_food_count;
  birth = ltb 0 s.initial_food_count;
  snakes = each_below s.num_snakes (start_snake s);
  food = [];
}
