-- What the parts of a sound image hold, so that no function above proves it again: bodies, food, and the state's snakes. Assumes nothing.
use Prim.Native.Nat.{ℕ, ◌+◌, ◌-◌, ◌<◌, ◌≤◌}
use native.Mathlib.Nat.{mul-le-mul}
use native.Mathlib.Omega.{arith}
use mathlib.Core.Path.{◌≡◌, sym, ap, ◌∙◌}
use mathlib.Core.Bool.{true}
use mathlib.Core.List.{List}
use lib.Dec.{ltb}
use lib.ListN.{length, length-drop}
use borrow.Author.Tests.{lt-ltb}
use Rattle.lists.specs.Lists.{all, ascending}
use Rattle.boards.specs.Boards.{Under}
use Rattle.lists.proofs.Below.{each_at, each_long}
use Rattle.lists.proofs.Lists.{part_long, all_each}
use Rattle.boards.proofs.Boards.{part_under, rest_under}
use Rattle.rules.specs.Image.{front, snakes_in, food_count_in, area_in, start_at, length_at, start_due, food_start, body_at, food_at, snake_at, state_of}
use Rattle.rules.specs.Facts.{Sound}
use Rattle.rules.specs.State.{Snake, count, snake_of, nobody}
use Rattle.rules.proofs.Facts.{start_next}

module _ (w : List ℕ) where
  pub state_count : count (state_of w) ≡ snakes_in w
  unfolding state_of
  state_count = each_long (snakes_in w) (snake_at w)

  pub state_snake : (i : ℕ) → i < snakes_in w → snake_of (state_of w) i ≡ snake_at w i
  unfolding state_of
  state_snake i h = each_at (snakes_in w) (snake_at w) nobody i h

  pub state_body : (i : ℕ) → i < snakes_in w → (snake_of (state_of w) i).body ≡ body_at w i
  state_body i h = ap (λ (s : Snake). s.body) (state_snake i h)

module _ (w : List ℕ) (s : Sound w) where
  pub area_min : 1 ≤ area_in w
  area_min = mul-le-mul s.side_min s.side_min

  -- ---- bodies

  module _ (i : ℕ) (h : i < snakes_in w) where
    pub body_from : front (snakes_in w) ≤ start_at w i
    body_from = omega (arith, s.starts i h)

    pub body_in_lem : start_at w i + length_at w i ≤ length w
    body_in_lem = omega (arith, s.bodies_in i h, s.total)

    pub body_long : length (body_at w i) ≡ length_at w i
    body_long = part_long w (start_at w i) (length_at w i) body_in_lem

    -- every cell is on the board; past the last stands 0, which is
    pub body_under : Under (area_in w) (body_at w i)
    body_under = part_under w (area_in w) (start_at w i) (length_at w i) area_min (λ k a b. s.cells k (omega (arith, body_from)) (omega (arith, body_in_lem)))

    pub body_all : all (λ c. ltb c (area_in w)) (body_at w i) ≡ true
    body_all = all_each (λ c. ltb c (area_in w)) (body_at w i) 0 (λ k l. lt-ltb _ _ (body_under k))

  -- ---- food

  -- the food starts where the last body ends
  pub food_after : food_start w ≡ start_at w (snakes_in w - 1) + length_at w (snakes_in w - 1)
  food_after =
      let last : snakes_in w - 1 < snakes_in w = omega (arith, s.snakes_min) in
      let e : snakes_in w - 1 + 1 ≡ snakes_in w = omega (arith, s.snakes_min) in
      sym (ap (start_due w) e) ∙ start_next w (snakes_in w - 1) ∙ ap (λ (k : ℕ). k + length_at w (snakes_in w - 1)) (sym (s.starts (snakes_in w - 1) last))

  pub food_long : length (food_at w) ≡ food_count_in w
  food_long = omega (arith, length-drop (food_start w) w, s.total)

  pub food_under : Under (area_in w) (food_at w)
  food_under = rest_under w (area_in w) (food_start w) area_min (λ k a b. s.cells k (omega arith) b)

  pub food_all : all (λ c. ltb c (area_in w)) (food_at w) ≡ true
  food_all = all_each (λ c. ltb c (area_in w)) (food_at w) 0 (λ k l. lt-ltb _ _ (food_under k))

  pub state_food : ascending 0 (state_of w).food ≡ true
  unfolding state_of
  state_food = s.rising
