-- The initial state of an accepted setting: its snakes, its image, and that the image is well-formed. Assumes nothing.
use Prim.Native.Nat.{ℕ, ◌+◌, ◌*◌, ◌<◌, ◌≤◌, zero-le}
use native.Mathlib.Nat.{le_refl, mul_comm}
use native.Mathlib.Omega.{arith}
use mathlib.Core.Path.{◌≡◌, refl, sym, ap, ap₂, ◌∙◌}
use mathlib.Core.Bool.{true}
use mathlib.Core.List.{List, [], ◌∷◌, ◌++◌, map, append-nil}
use lib.Dec.{ltb}
use lib.IntN.{ℤ, pos}
use lib.ListN.{length, length-map}
use Rattle.lists.specs.Choice.{bit}
use Rattle.lists.specs.Below.{concat_below}
use Rattle.lists.specs.Lists.{all, distinct, ascending}
use Rattle.lists.proofs.Repeats.{sum_same}
use Rattle.lists.proofs.Below.{each_long, each_at, concat_ext, concat_long, sum_ext}
use Rattle.lists.proofs.Distinct.{distinct_block}
use Rattle.rules.specs.Grid.{cell_of}
use Rattle.rules.specs.Headings.{number_of}
use Rattle.rules.specs.Placement.{placed}
use Rattle.rules.specs.State.{Snake, nobody, count, snake_of}
use Rattle.rules.specs.Image.{front, body_of, start_of, record_of, image_of, well_formed}
use Rattle.rules.specs.Facts.{Holdable}
use Rattle.rules.specs.Setting.{side_of, area_of, start_snake, initial_state, setting_check}
use Rattle.rules.specs.SettingParts.{cells_of, start_cells, start_record, start_contents}
use Rattle.rules.specs.SettingFacts.{Accepts}
use Rattle.rules.specs.declared.Setting.{Setting}
use Rattle.rules.proofs.Facts.{square_le}
use Rattle.rules.proofs.Holdable.{image_well_formed}
use Rattle.rules.proofs.PlaceCheck.{body_inside}
use Rattle.rules.proofs.SettingFacts.{accepts, cells_all}

module _ (s : Setting) (a : Accepts s) where
  -- a body's places are those of the grid by its side
  by_side : (i : ℕ) → map (cell_of (side_of s.grid_size)) (placed s.grid_size s.num_snakes s.initial_length i) ≡ cells_of (side_of s.grid_size) s.num_snakes s.initial_length i
  by_side i = ap (λ (z : ℤ). map (cell_of (side_of s.grid_size)) (placed z s.num_snakes s.initial_length i)) a.grid_is

  pub start_count : count (initial_state s) ≡ s.num_snakes
  unfolding initial_state
  start_count = each_long s.num_snakes (start_snake s)

  pub start_snake_lem : (i : ℕ) → i < s.num_snakes → snake_of (initial_state s) i ≡ start_snake s i
  unfolding initial_state
  start_snake_lem i h = each_at s.num_snakes (start_snake s) nobody i h

  pub start_body : (i : ℕ) → i < s.num_snakes → body_of (initial_state s) i ≡ cells_of (side_of s.grid_size) s.num_snakes s.initial_length i
  start_body i h = ap (λ (z : Snake). z.body) (start_snake_lem i h) ∙ by_side i

  pub cells_long : (i : ℕ) → i < s.num_snakes → length (cells_of (side_of s.grid_size) s.num_snakes s.initial_length i) ≡ s.initial_length
  cells_long i h =
      length-map (placed (pos (side_of s.grid_size)) s.num_snakes s.initial_length i) (cell_of (side_of s.grid_size))
      ∙ ap (λ (z : ℤ). length (placed z s.num_snakes s.initial_length i)) (sym a.grid_is)
      ∙ a.long i h

  pub start_long : (i : ℕ) → i < s.num_snakes → length (body_of (initial_state s) i) ≡ s.initial_length
  start_long i h = ap (λ (l : List ℕ). length l) (start_body i h) ∙ cells_long i h

  pub start_cells_lem : (i : ℕ) → i < s.num_snakes → all (λ c. ltb c (area_of s)) (body_of (initial_state s) i) ≡ true
  start_cells_lem i h =
      ap (all (λ c. ltb c (area_of s))) (start_body i h)
      ∙ cells_all (side_of s.grid_size) (placed (pos (side_of s.grid_size)) s.num_snakes s.initial_length i) (body_inside (side_of s.grid_size) s.num_snakes s.initial_length a.side_min a.side_max a.size_min i h)

  pub start_apart : (i : ℕ) → i < s.num_snakes → distinct (body_of (initial_state s) i) ≡ true
  start_apart i h = ap distinct (start_body i h) ∙ distinct_block (cells_of (side_of s.grid_size) s.num_snakes s.initial_length) i s.num_snakes h a.apart

  -- ---- an image can hold it

  pub start_holdable : Holdable (initial_state s)
  unfolding initial_state all ascending
  start_holdable =
      let n = start_count in
      record {
        snakes_min = omega (arith, n, a.snakes_min);
        snakes_max = omega (arith, n, a.snakes_max);
        side_min = omega (arith, a.side_min);
        side_max = a.side_max;
        due_max = omega (arith, a.food_free, square_le (side_of s.grid_size) a.side_max);
        food_max = zero-le;
        food_cells = refl;
        rising = refl;
        lengths = λ i h. omega (arith, start_long i (omega (arith, n)), a.size_max);
        cells = λ i h. start_cells_lem i (omega (arith, n));
        apart = λ i h. start_apart i (omega (arith, n));
        living = λ i h _. omega (arith, start_long i (omega (arith, n)), a.size_min);
      }

  -- ---- its image

  bodies_to : (i : ℕ) → i ≤ s.num_snakes → concat_below i (body_of (initial_state s)) ≡ concat_below i (cells_of (side_of s.grid_size) s.num_snakes s.initial_length)
  bodies_to i h = concat_ext i (body_of (initial_state s)) (cells_of (side_of s.grid_size) s.num_snakes s.initial_length) (λ j l. start_body j (omega arith))

  starts_at : (i : ℕ) → i < s.num_snakes → start_of (initial_state s) i ≡ front s.num_snakes + s.initial_length * i
  starts_at i h =
      let l : length (concat_below i (body_of (initial_state s))) ≡ s.initial_length * i =
      concat_long i (body_of (initial_state s)) ∙ sum_ext i (λ j. length (body_of (initial_state s) j)) (λ j. s.initial_length) (λ j q. start_long j (omega arith)) ∙ sum_same i s.initial_length ∙ mul_comm i s.initial_length in
      ap₂ (λ (x y : ℕ). front x + y) start_count l

  record_is : (i : ℕ) → i < s.num_snakes → record_of (initial_state s) i ≡ start_record s.num_snakes s.initial_length i
  record_is i h =
      let z = start_snake_lem i h in
      ap₂ (λ (x : ℕ) (l : List ℕ). x ∷ l) (starts_at i h)
      (ap₂ (λ (x : ℕ) (l : List ℕ). x ∷ l) (start_long i h) (ap (λ (z : Snake). number_of z.heading ∷ bit z.alive ∷ []) z))

  pub start_image : image_of (initial_state s) ≡ start_contents s ++ (concat_below s.num_snakes (start_record s.num_snakes s.initial_length) ++ start_cells s)
  unfolding image_of initial_state
  start_image =
      let t = initial_state s in
      ap (λ (n : ℕ). (n ∷ side_of s.grid_size ∷ s.initial_food_count ∷ bit (ltb 0 s.initial_food_count) ∷ 0 ∷ []) ++ (concat_below n (record_of t) ++ (concat_below n (body_of t) ++ []))) start_count
      ∙ ap₂ (λ (r b : List ℕ). start_contents s ++ (r ++ b))
      (concat_ext s.num_snakes (record_of t) (start_record s.num_snakes s.initial_length) record_is)
      (append-nil (concat_below s.num_snakes (body_of t)) ∙ bodies_to s.num_snakes (le_refl s.num_snakes))

-- the initial state of an accepted setting is well-formed again
pub initial_again : (s : Setting) → setting_check s ≡ 0 → well_formed (image_of (initial_state s)) ≡ true
initial_again s e = image_well_formed (initial_state s) (start_holdable s (accepts s e))
