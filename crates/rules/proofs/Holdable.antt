-- The image of a state that an image can hold is well-formed, and a well-formed image holds such a state. Assumes nothing.
use Prim.Native.Nat.{ℕ, ◌+◌, ◌<◌, ◌≤◌}
use native.Mathlib.Nat.{le_refl}
use native.Mathlib.Omega.{arith}
use mathlib.Core.Path.{◌≡◌, refl, sym, ap, ap₂, ◌∙◌}
use mathlib.Core.Bool.{Bool, true, false, not, ◌||◌}
use mathlib.Core.List.{List}
use lib.Dec.{leb, ltb, eqb}
use lib.ListN.{length, drop}
use borrow.Author.Tests.{le-leb, eq-eqb, eqb-true}
use Rattle.lists.specs.Below.{concat_below}
use Rattle.lists.specs.Lists.{all, distinct, ascending}
use Rattle.lists.proofs.Tests.{every_true, both, bit_le}
use Rattle.lists.proofs.Below.{all_true}
use Rattle.lists.proofs.Lists.{all_append}
use Rattle.lists.proofs.Repeats.{all_concat}
use Rattle.rules.specs.Headings.{number_of}
use Rattle.rules.specs.State.{Snake, State, count, snake_of, area}
use Rattle.rules.specs.Image.{front, body_of, image_of, snakes_in, food_count_in, area_in, start_at, length_at, heading_at, alive_at, start_due, body_at, state_of, long_enough, contents_fit, record_fits, ranges_fit, starts_fit, total_fits, cells_fit, bodies_fit, food_fits, well_formed}
use Rattle.rules.specs.Facts.{Sound, Holdable}
use Rattle.rules.specs.declared.Heading.{Heading}
use Rattle.rules.specs.declared.Heading.TheVariants.{Up, Right, Down, Left}
use Rattle.rules.proofs.Image.{past_front, start_is, length_is, heading_is, alive_is, body_is, snakes_is, start_due_lem, food_is, image_long, bit_back}
use Rattle.rules.proofs.Parts.{state_count, state_snake, state_body, body_long, body_all, food_long, food_all}

-- ---- from a state

pub number_le : (h : Heading) → number_of h ≤ 3
number_le Up = omega arith
number_le Right = omega arith
number_le Down = omega arith
number_le Left = omega arith

-- a test that holds where another does
implies : (a b : Bool) → (a ≡ true → b ≡ true) → (not a || b) ≡ true
implies true b h = h refl
implies false b h = refl

module _ (s : State) (ok : Holdable s) where
  long : long_enough (image_of s) ≡ true
  unfolding long_enough
  long =
      let e = image_long s in
      both (le-leb 5 (length (image_of s)) (omega arith)) (rw (snakes_is s) (le-leb (front (count s)) (length (image_of s)) (omega arith)))

  contents : contents_fit (image_of s) ≡ true
  unfolding contents_fit image_of
  contents =
      every_true _ (
        both (le-leb _ _ ok.snakes_min) (le-leb _ _ ok.snakes_max),
        (
          both (le-leb _ _ ok.side_min) (le-leb _ _ ok.side_max),
          (
            le-leb _ _ ok.due_max,
            (
              le-leb _ _ (bit_le s.birth),
              (
                le-leb _ _ ok.food_max,
                tt,
              ),
            ),
          ),
        ),
      )

  area_is : area_in (image_of s) ≡ area s
  unfolding image_of
  area_is = refl

  record_fits_lem : (i : ℕ) → i < count s → record_fits (image_of s) i ≡ true
  record_fits_lem i h =
      let l = length_is s i h in
      let a = alive_is s i h in
      every_true _ (
        le-leb (length_at (image_of s) i) (area_in (image_of s)) (rw (l, area_is) (ok.lengths i h)),
        (
          le-leb (heading_at (image_of s) i) 3 (rw (heading_is s i h) (number_le (snake_of s i).heading)),
          (
            le-leb (alive_at (image_of s) i) 1 (rw a (bit_le (snake_of s i).alive)),
            (
              implies (eqb (alive_at (image_of s) i) 1) (leb 1 (length_at (image_of s) i))
                  (λ t. le-leb 1 (length_at (image_of s) i) (rw l (ok.living i h (sym (bit_back (snake_of s i).alive) ∙ ap (λ (k : ℕ). eqb k 1) (sym a) ∙ t)))),
              tt,
            ),
          ),
        ),
      )

  ranges : ranges_fit (image_of s) ≡ true
  unfolding ranges_fit
  ranges = both contents (all_true (record_fits (image_of s)) (snakes_in (image_of s)) (λ i h. record_fits_lem i (rw (snakes_is s) at h)))

  starts : starts_fit (image_of s) ≡ true
  unfolding starts_fit
  starts =
      all_true (λ i. eqb (start_at (image_of s) i) (start_due (image_of s) i)) (snakes_in (image_of s))
      (λ i h. let l : i < count s = rw (snakes_is s) at h in eq-eqb _ _ (start_is s i l ∙ sym (start_due_lem s i (omega arith))))

  food_count : food_count_in (image_of s) ≡ length s.food
  unfolding image_of
  food_count = refl

  total : total_fits (image_of s) ≡ true
  unfolding total_fits
  total =
      eq-eqb _ _
      (ap₂ ◌+◌ (ap (start_due (image_of s)) (snakes_is s) ∙ start_due_lem s (count s) (le_refl (count s))) food_count ∙ sym (image_long s))

  cells_fit_lem : cells_fit (image_of s) ≡ true
  unfolding cells_fit
  cells_fit_lem =
      let p : ℕ → Bool = λ c. ltb c (area s) in
      let b = concat_below (count s) (body_of s) in
      ap₂ (λ (a k : ℕ). all (λ c. ltb c a) (drop (front k) (image_of s))) area_is (snakes_is s)
      ∙ ap (all p) (past_front s)
      ∙ all_append p b s.food
      ∙ both (all_concat p (count s) (body_of s) ok.cells) ok.food_cells

  bodies_fit_lem : bodies_fit (image_of s) ≡ true
  unfolding bodies_fit
  bodies_fit_lem =
      all_true (λ i. distinct (body_at (image_of s) i)) (snakes_in (image_of s))
      (λ i h. let l : i < count s = rw (snakes_is s) at h in ap distinct (body_is s i l) ∙ ok.apart i l)

  food_fits_lem : food_fits (image_of s) ≡ true
  unfolding food_fits
  food_fits_lem = ap (ascending 0) (food_is s) ∙ ok.rising

  pub image_well_formed : well_formed (image_of s) ≡ true
  unfolding well_formed
  image_well_formed = every_true _ (long, (ranges, (starts, (total, (cells_fit_lem, (bodies_fit_lem, (food_fits_lem, tt)))))))

-- ---- from an image

module _ (w : List ℕ) (ok : Sound w) where
  pub holds_state : Holdable (state_of w)
  unfolding state_of
  holds_state =
      let c = state_count w in
      record {
        snakes_min = rw c ok.snakes_min;
        snakes_max = rw c ok.snakes_max;
        side_min = ok.side_min;
        side_max = ok.side_max;
        due_max = ok.due_max;
        food_max = rw (food_long w ok) ok.food_max;
        food_cells = food_all w ok;
        rising = ok.rising;
        lengths = λ i h. let l : i < snakes_in w = rw c at h in rw (state_body w i l, body_long w ok i l) (ok.lengths i l);
        cells = λ i h. let l : i < snakes_in w = rw c at h in rw (state_body w i l) (body_all w ok i l);
        apart = λ i h. let l : i < snakes_in w = rw c at h in rw (state_body w i l) (ok.apart i l);
        living = λ i h t.
            let l : i < snakes_in w = rw c at h in
            rw (state_body w i l, body_long w ok i l) (ok.living i l (eqb-true _ _ (sym (ap (λ (z : Snake). z.alive) (state_snake w i l)) ∙ t)));
      }
