-- What each test of an image tells the tests after it. Assumes nothing.
use Prim.Native.Nat.{ℕ, ◌+◌, ◌-◌, ◌<◌, ◌≤◌}
use native.Mathlib.Nat.{le_trans}
use native.Mathlib.Omega.{arith}
use mathlib.Core.Path.{◌≡◌}
use mathlib.Core.Bool.{Bool, true}
use mathlib.Core.List.{List, [], ◌∷◌}
use lib.Dec.{leb, ltb, eqb}
use lib.ListN.{length, get_or, drop, length-drop}
use lib.Seq.{get_or-drop}
use borrow.Author.Tests.{leb-true, ltb-true, eqb-true}
use Rattle.lists.specs.Below.{all_below}
use Rattle.lists.proofs.Tests.{every_at, and_left, and_right}
use Rattle.lists.proofs.Below.{all_at, sum_le}
use Rattle.lists.proofs.Lists.{all_cells}
use Rattle.boards.proofs.Boards.{part_under}
use Rattle.rules.specs.Image.{word, front, snakes_in, side_in, area_in, due_in, birth_in, food_count_in, start_at, length_at, start_due, food_start, between, long_enough, contents_fit, record_fits, ranges_fit, starts_fit, cells_fit}
use Rattle.rules.proofs.Facts.{square_le, start_next, start_mono}
use Rattle.wellformed.specs.Checked.{Long, Ranged, Laid, OnBoard}

module _ (w : List ℕ) where
  abbrev pub start_fits : ℕ → Bool
  start_fits k = eqb (start_at w k) (start_due w k)

  pub long_of : long_enough w ≡ true → Long w
  unfolding long_enough
  long_of t = record {
    five = leb-true _ _ (and_left (leb 5 (length w)) (leb (front (snakes_in w)) (length w)) t);
    records_in = leb-true _ _ (and_right (leb 5 (length w)) (leb (front (snakes_in w)) (length w)) t);
  }

  pub ranged_of : Long w → ranges_fit w ≡ true → Ranged w
  unfolding ranges_fit contents_fit
  ranged_of l t =
      let contents : (k : ℕ) → get_or (between 2 (snakes_in w) 8 ∷ between 1 (side_in w) 32 ∷ leb (due_in w) 1024 ∷ leb (birth_in w) 1 ∷ leb (food_count_in w) (area_in w) ∷ []) k true ≡ true =
      λ k. every_at _ k (and_left (contents_fit w) (all_below (snakes_in w) (record_fits w)) t) in
      let n : snakes_in w ≤ 8 = leb-true _ _ (and_right (leb 2 (snakes_in w)) (leb (snakes_in w) 8) (contents 0)) in
      let g : side_in w ≤ 32 = leb-true _ _ (and_right (leb 1 (side_in w)) (leb (side_in w) 32) (contents 1)) in
      let a = square_le (side_in w) g in
      let each : (i : ℕ) → i < snakes_in w → length_at w i ≤ 1024 =
      λ i h. le_trans (leb-true _ _ (every_at _ 0 (all_at (record_fits w) (snakes_in w) i h (and_right (contents_fit w) _ t)))) a in
      record { long = l; snakes_max = n; side_max = g; area_max = a; food_early = omega (arith, sum_le (length_at w) 1024 (snakes_in w) each) }

  pub laid_of : Ranged w → starts_fit w ≡ true → food_start w + food_count_in w ≡ length w → Laid w
  unfolding starts_fit
  laid_of r t e =
      let start : (i : ℕ) → i < snakes_in w → start_at w i ≡ start_due w i = λ i h. eqb-true _ _ (all_at start_fits (snakes_in w) i h t) in
      record {
        ranged = r;
        food_in = omega arith;
        bodies_from = λ i h. omega (arith, start i h);
        bodies_in = λ i h. omega (arith, start i h, start_next w i, start_mono w (i + 1) (snakes_in w) (omega arith));
      }

  pub board_of : Laid w → cells_fit w ≡ true → OnBoard w
  unfolding cells_fit
  board_of l t =
      let f = front (snakes_in w) in
      let cell : (k : ℕ) → f ≤ k → k < length w → word w k < 1024 = λ k a h.
      let e : f + (k - f) ≡ k = omega arith in
      let c = ltb-true (get_or (drop f w) (k - f) 0) (area_in w) (all_cells (λ c. ltb c (area_in w)) (drop f w) 0 (k - f) t (omega (arith, length-drop f w))) in
      omega (arith, rw (get_or-drop f w (k - f) 0, e) at c) in
      record { laid = l; cells = λ i h. part_under w 1024 (start_at w i) (length_at w i) (omega arith) (λ k a b. cell k (omega (arith, l.bodies_from i h)) (omega (arith, l.bodies_in i h, l.food_in))) }
