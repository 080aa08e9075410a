-- What is wrong with an image fits a number of 64 bits: a fault's number is 50 to 56, and its word is below 65,536. Assumes nothing.
use Rattle.std.specs.Prelude.{Some, Ok, Err}
use Prim.Native.Nat.{ℕ, ◌+◌, ◌*◌, ◌-◌, ◌<◌, ◌≤◌}
use native.Mathlib.Nat.{min-le_left}
use native.Mathlib.Omega.{arith}
use mathlib.Core.Path.{◌≡◌, refl, sym, ap, ◌∙◌}
use mathlib.Core.Bool.{Bool, true, false, not, ◌&&◌, ◌||◌}
use mathlib.Core.List.{List}
use mathlib.Core.Logic.{⊎_elim}
use lib.Dec.{leb, ltb, eqb}
use lib.ListN.{length, get_or, take, drop, length-take}
use borrow.Author.Tests.{ltb-true, leb-true, not-true, not-false}
use Rattle.lists.specs.Choice.{◌if◌else◌}
use Rattle.lists.specs.Lists.{member, distinct}
use Rattle.lists.proofs.Tests.{tell, compared, same, other, ordered, less, more, and_left, and_right, every_at, or_second}
use Rattle.lists.proofs.Lowest.{lowest_le, lowest_holds, none_lower, none_out}
use Rattle.lists.proofs.Below.{all_true}
use Rattle.rules.specs.Image.{word, front, snakes_in, side_in, area_in, due_in, birth_in, food_count_in, start_at, start_due, length_at, heading_at, alive_at, body_at, food_start, between, contents_fit, record_fits, starts_fit, cells_fit, well_formed}
use Rattle.rules.specs.Faults.{first_out, cut_short, contents_out, record_out, start_word, total_word, cell_word, twice_in, food_word}
use Rattle.rules.specs.Calls.{image_says}
use Rattle.rules.specs.Promises.{Faulty}
use Rattle.rules.specs.declared.refusal.Refusal.{Refusal}
use Rattle.rules.proofs.Faults.{image_given}
use Rattle.wellformed.specs.Checked.{Adds, FirstOut}
use Rattle.wellformed.specs.declared.contents.Layout.{Layout}
use Rattle.faults.specs.Past.{Counted, InRange, InPlace, OnGrid}
use Rattle.faults.proofs.Rows.{at_50, at_51, counted, at_record, in_range, at_52, at_53, in_place, at_54, on_grid, at_55, at_56}
use Rattle.rules.specs.Refusals.{code_of, word_shown}

-- a refusal that is the image's, with a small word
pub record Known (w : List ℕ) : Type 0 where
  pub why : Refusal
  pub faulty : Faulty w why
  pub low : 50 ≤ code_of why
  pub high : code_of why ≤ 56
  pub small : word_shown why < 65536

few : (a b c d : Bool) → (0 if a else 1 if b else 2 if c else 3 if d else 4) ≤ 4
few true b c d = omega arith
few false true b c = omega arith
few false false true d = omega arith
few false false false true = omega arith
few false false false false = omega arith

near : (i : ℕ) (a b : Bool) → (6 + 4 * i if a else 7 + 4 * i if b else 8 + 4 * i) ≤ 8 + 4 * i
near i true b = omega arith
near i false true = omega arith
near i false false = omega arith

-- the lowest that fails is the first: all before it pass
first_of : (n : ℕ) (fits : ℕ → Bool) → first_out n fits < n → FirstOut n fits (Some (first_out n fits))
first_of n fits h =
    let x = first_out n fits in
    (h, not-true (fits x) (lowest_holds (λ i. not (fits i)) n h), all_true fits x (λ i l. not-false (fits i) (none_lower (λ i. not (fits i)) n i l)))

module _ (w : List ℕ) where
  known : (k : Refusal) (n m : ℕ) → code_of k ≡ n → word_shown k ≡ m → 50 ≤ n → n ≤ 56 → m < 65536 → Faulty w k → Known w
  known k n m p q l h s f = record { why = k; faulty = f; low = rw p l; high = rw p h; small = rw q s }

  cut_known : cut_short w ≡ true → Known w
  unfolding cut_short
  cut_known t = known (Refusal.CutShort (length w)) 50 (length w) refl refl (omega arith) (omega arith) short (at_50 w (cut_short w) refl t (Refusal.CutShort (length w)) refl)
    where
      short : length w < 65536
      short = elim (ordered (length w) 5) [
        | less l e ↦ omega arith
        | more l e ↦
            let two = or_second (ltb (length w) 5) (between 2 (snakes_in w) 8 && ltb (length w) (front (snakes_in w))) e t in
            let n : snakes_in w ≤ 8 = leb-true _ _ (and_right (leb 2 (snakes_in w)) (leb (snakes_in w) 8) (and_left (between 2 (snakes_in w) 8) _ two)) in
            let f : length w < front (snakes_in w) = ltb-true (length w) (front (snakes_in w)) (and_right (between 2 (snakes_in w) 8) _ two) in
            omega arith
      ]

  module _ (c : cut_short w ≡ false) where
    contents_known : contents_fit w ≡ false → Known w
    unfolding contents_out
    contents_known t =
        known (Refusal.OutOfRange (contents_out w)) 51 (contents_out w) refl refl (omega arith) (omega arith)
        (let f = few (not (between 2 (snakes_in w) 8)) (not (between 1 (side_in w) 32)) (ltb 1024 (due_in w)) (ltb 1 (birth_in w)) in omega arith)
        (at_51 w (cut_short w) refl c (contents_fit w) refl (ap not t) (contents_out w) refl (Refusal.OutOfRange (contents_out w)) refl)

    all_counted : contents_fit w ≡ true → Counted w
    all_counted t = counted w (cut_short w) refl c (contents_fit w) refl (ap not t)

  -- at most eight snakes, and no more food than cells
  snakes_few : contents_fit w ≡ true → snakes_in w ≤ 8
  unfolding contents_fit
  snakes_few t = leb-true _ _ (and_right (leb 2 (snakes_in w)) (leb (snakes_in w) 8) (every_at _ 0 t))

  food_few : contents_fit w ≡ true → food_count_in w ≤ area_in w
  unfolding contents_fit
  food_few t = leb-true _ _ (every_at _ 4 t)

  abbrev bad_record : ℕ
  bad_record = first_out (snakes_in w) (record_fits w)

  record_known : Counted w → bad_record < snakes_in w → Known w
  unfolding record_out
  record_known k h =
      known (Refusal.OutOfRange (record_out w bad_record)) 51 (record_out w bad_record) refl refl (omega arith) (omega arith)
      (let f = near bad_record (ltb (area_in w) (length_at w bad_record) || (eqb (alive_at w bad_record) 1 && eqb (length_at w bad_record) 0)) (ltb 3 (heading_at w bad_record)) in
      omega (arith, snakes_few k.fits))
      (at_record w k bad_record (first_of (snakes_in w) (record_fits w) h) (record_out w bad_record) refl (Refusal.OutOfRange (record_out w bad_record)) refl)

  abbrev layout : Layout
  layout = record { fits = starts_fit w; food = food_start w }

  laid : Adds w layout
  laid = record { starts = refl; food_is = refl }

  module _ (k : InRange w) where
    start_known : starts_fit w ≡ false → Known w
    unfolding start_word
    start_known t =
        known (Refusal.Start (start_word w)) 52 (start_word w) refl refl (omega arith) (omega arith)
        (omega (arith, lowest_le (λ i. not (eqb (start_at w i) (start_due w i))) 0 (snakes_in w), k.ranged.snakes_max))
        (at_52 w k layout laid (ap not t) (start_word w) refl (Refusal.Start (start_word w)) refl)

    module _ (f : contents_fit w ≡ true) (t : starts_fit w ≡ true) where
      early : food_start w + food_count_in w ≤ 9253
      early = omega (arith, food_few f, k.ranged.area_max, k.ranged.food_early)

      total_known : (food_start w + food_count_in w ≡ length w → ⊥) → Known w
      unfolding total_word
      total_known n =
          known (Refusal.Total (total_word w)) 53 (total_word w) refl refl (omega arith) (omega arith) (omega (arith, early, min-le_left (food_start w + food_count_in w) (length w)))
          (at_53 w k layout laid (ap not t) n (total_word w) refl (Refusal.Total (total_word w)) refl)

      placed : food_start w + food_count_in w ≡ length w → InPlace w
      placed e = in_place w k layout laid (ap not t) e

  module _ (short : length w ≤ 9253) where
    module _ (k : InPlace w) where
      cell_known : cells_fit w ≡ false → Known w
      unfolding cell_word
      cell_known t =
          known (Refusal.CellBeyond (cell_word w)) 54 (cell_word w) refl refl (omega arith) (omega arith)
          (omega (arith, lowest_le (λ j. leb (area_in w) (word w j)) (front (snakes_in w)) (length w - front (snakes_in w)), k.laid.ranged.long.records_in))
          (at_54 w k (cells_fit w) refl (ap not t) (cell_word w) refl (Refusal.CellBeyond (cell_word w)) refl)

      gridded : cells_fit w ≡ true → OnGrid w
      gridded t = on_grid w k (cells_fit w) refl (ap not t)

    module _ (k : OnGrid w) where
      abbrev twice : ℕ
      twice = first_out (snakes_in w) (λ i. distinct (body_at w i))

      abbrev place : ℕ
      place = start_at w twice + twice_in (body_at w twice)

      twice_known : twice < snakes_in w → Known w
      unfolding twice_in
      twice_known h =
          known (Refusal.CellTwice place) 55 place refl refl (omega arith) (omega arith)
          (omega (
            arith,
            lowest_le (λ j. member (get_or (body_at w twice) j 0) (take j (body_at w twice))) 0 (length (body_at w twice)),
            length-take (length_at w twice) (drop (start_at w twice) w),
            min-le_left (length_at w twice) (length (drop (start_at w twice) w)),
            k.board.laid.bodies_in twice h,
            k.board.laid.ranged.food_early,
          ))
          (at_55 w k twice (first_of (snakes_in w) (λ i. distinct (body_at w i)) h) place refl (Refusal.CellTwice place) refl)

      food_known : snakes_in w ≤ twice → Known w
      unfolding food_word
      food_known h =
          known (Refusal.FoodOrder (food_word w)) 56 (food_word w) refl refl (omega arith) (omega arith)
          (omega (arith, lowest_le (λ j. leb (word w j) (word w (j - 1))) (food_start w + 1) (length w - (food_start w + 1)), k.board.laid.ranged.food_early))
          (at_56 w k (none_out (λ i. distinct (body_at w i)) (snakes_in w) h) (food_word w) refl (Refusal.FoodOrder (food_word w)) refl)

      last_known : Known w
      last_known = elim (ordered twice (snakes_in w)) [ less h t ↦ twice_known h | more h t ↦ food_known h ]

  pub fault_known : Known w
  fault_known = ⊎_elim cut_known
      (λ c. ⊎_elim
      (λ f. let k = all_counted c f in elim (ordered bad_record (snakes_in w)) [
        | less h t ↦ record_known k h
        | more h t ↦
            let r = in_range w k (none_out (record_fits w) (snakes_in w) h) in
            ⊎_elim
            (λ s. elim (compared (food_start w + food_count_in w) (length w)) [
              | same e u ↦
                  let p = placed r f s e in
                  let short : length w ≤ 9253 = omega (arith, early r f s) in
                  ⊎_elim (λ g. last_known short (gridded short p g)) (cell_known short p) (tell (cells_fit w))
              | other n u ↦ total_known r f s n
            ])
            (start_known r)
            (tell (starts_fit w))
      ])
      (contents_known c)
      (tell (contents_fit w)))
      (tell (cut_short w))

  accepted : well_formed w ≡ true → image_says w ≡ Ok tt
  unfolding image_says
  accepted f = image_given w (Ok tt) f

  -- what is said of an image that is refused is that
  pub fault_word : (k : Refusal) → image_says w ≡ Err k → (50 ≤ code_of k) × (code_of k ≤ 56) × (word_shown k < 65536)
  fault_word k e =
      let z : fault_known.why ≡ k = go (well_formed w) refl in
      (rw z at fault_known.low, rw z at fault_known.high, rw z at fault_known.small)
    where
      go : (b : Bool) → well_formed w ≡ b → fault_known.why ≡ k
      go true f = let q = sym e ∙ accepted f in let z : ◌≡◌ {A = ℕ} 0 1 = cc in absurd (omega arith)
      go false f = let q = fault_known.faulty.answer f ∙ e in cc
