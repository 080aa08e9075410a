-- Which row of an image holds first, by the tests made so far: one law for each return, and what the rows before it tell. Assumes nothing.
use Rattle.std.specs.Prelude.{Some, None, Ok, Err}
use Prim.Native.Nat.{ℕ, zero, suc, ◌+◌, ◌*◌, ◌<◌, ◌≤◌, min}
use native.Mathlib.Omega.{arith}
use mathlib.Core.Path.{◌≡◌, refl, sym, ap, ◌∙◌}
use mathlib.Core.Bool.{Bool, true, false, not, true≢false}
use mathlib.Core.List.{List, [], ◌∷◌}
use mathlib.Core.Logic.{⊎_elim}
use lib.Dec.{ltb}
use lib.ListN.{length, get_or, take}
use borrow.Author.Tests.{ltb-false, not-true, not-false, ne_eqb, eq-eqb}
use Rattle.lists.specs.Below.{all_below}
use Rattle.lists.specs.Lists.{all, distinct}
use Rattle.lists.proofs.Tests.{tell, and_left, and_right, every_at, both, or_false_left, or_false_right}
use Rattle.lists.proofs.Below.{all_fails}
use Rattle.lists.proofs.Lowest.{out_here}
use Rattle.rules.specs.Tables.{Table, none_hold}
use Rattle.rules.specs.Image.{front, snakes_in, food_count_in, food_start, start_at, body_at, contents_fit, record_fits, ranges_fit, starts_fit, total_fits, cells_fit, bodies_fit, food_fits, well_formed}
use Rattle.rules.specs.Faults.{first_out, cut_short, contents_out, record_out, range_word, start_word, total_word, cell_word, twice_in, twice_word, food_word, image_rows}
use Rattle.rules.specs.Says.{Says, by_table}
use Rattle.rules.specs.Calls.{image_says}
use Rattle.rules.specs.Promises.{Checks, Examines, Faulty}
use Rattle.rules.specs.declared.refusal.Refusal.{Refusal}
use Rattle.rules.proofs.Faults.{no_fault, image_given}
use Rattle.wellformed.specs.Checked.{Adds, FirstOut}
use Rattle.wellformed.specs.declared.contents.Layout.{Layout}
use Rattle.wellformed.proofs.Checked.{ranged_of, laid_of, board_of}
use Rattle.faults.specs.Past.{Past, Counted, InRange, InPlace, OnGrid}

-- ---- a table, row by row

-- the first k rows do not hold and the k-th does
table_at : (t : Table) (k : ℕ) (x : Refusal) (r : Says (Unit {0})) → none_hold (take k t) ≡ true → get_or t k (Refusal.Buffer, false) ≡ (x, true) → by_table t r ≡ Err x
unfolding by_table all
table_at [] k x r h e = absurd (true≢false (sym (ap (λ (z : Refusal × Bool). z.1) e)))
table_at (y ∷ t) zero x r h e = rw (ap (λ (z : Refusal × Bool). z.1) e) (ap (λ (z : Refusal × Bool). Err z.0) e)
table_at (y ∷ t) (suc k) x r h e = rw (not-true y.1 (and_left (not y.1) _ h)) (table_at t k x r (and_right (not y.1) _ h) e)

-- nor does the k-th
none_next : (t : Table) (k : ℕ) → none_hold (take k t) ≡ true → (get_or t k (Refusal.Buffer, false)).1 ≡ false → none_hold (take (suc k) t) ≡ true
unfolding all
none_next [] k h e = refl
none_next (y ∷ t) zero h e = rw e
none_next (y ∷ t) (suc k) h e = both (and_left (not y.1) _ h) (none_next t k (and_right (not y.1) _ h) e)

-- ---- the first number that fails a test: it is the lowest, and not all pass

module _ (fits : ℕ → Bool) (n i : ℕ) (e : FirstOut n fits (Some i)) where
  first_is : i ≡ first_out n fits
  first_is = out_here fits n i e.0 e.2 e.1

  first_fails : all_below n fits ≡ false
  first_fails = all_fails fits n i e.0 e.1

module _ (w : List ℕ) where
  past_none : Past 0 w
  unfolding all
  past_none = record { none = refl }

  on : (k : ℕ) → Past k w → (get_or (image_rows w) k (Refusal.Buffer, false)).1 ≡ false → Past (suc k) w
  on k p e = record { none = none_next (image_rows w) k p.none e }

  here : (k : ℕ) (x : Refusal) → Past k w → get_or (image_rows w) k (Refusal.Buffer, false) ≡ (x, true) → Faulty w x
  unfolding image_says
  here k x p e = record { answer = λ _. sym (table_at (image_rows w) k x (Ok tt) p.none e) }

  -- a row's refusal, of the word that was found
  row : (f : ℕ → Refusal) (m : ℕ) (t : Bool) (x : Refusal) (k : ℕ) → x ≡ f k → k ≡ m → t ≡ true → ◌≡◌ {A = Refusal × Bool} (f m, t) (x, true)
  row f m t x k q e h = rw (q, e, h)

  -- ---- 50, and 51 of the first five words

  module _ (b : Bool) (e : b ≡ cut_short w) where
    pub at_50 : b ≡ true → (x : Refusal) → x ≡ Refusal.CutShort (length w) → Faulty w x
    unfolding image_rows
    at_50 t x q = here 0 x past_none (row Refusal.CutShort (length w) _ x (length w) q refl (sym e ∙ t))

    module _ (t : b ≡ false) where
      uncut : cut_short w ≡ false
      uncut = sym e ∙ t

      pub five : 5 ≤ length w
      unfolding cut_short
      five = ltb-false (length w) 5 (or_false_left (ltb (length w) 5) _ uncut)

      past_50 : Past 1 w
      unfolding image_rows
      past_50 = on 0 past_none uncut

      module _ (c : Bool) (f : c ≡ contents_fit w) where
        pub at_51 : not c ≡ true → (m : ℕ) → m ≡ contents_out w → (x : Refusal) → x ≡ Refusal.OutOfRange m → Faulty w x
        unfolding image_rows ranges_fit range_word
        at_51 n m z x q =
            let g : contents_fit w ≡ false = sym f ∙ not-true c n in
            here 1 x past_50 (row Refusal.OutOfRange (range_word w) _ x m q (z ∙ rw g) (rw g))

        pub counted : not c ≡ false → Counted w
        unfolding contents_fit cut_short
        counted n =
            let g : contents_fit w ≡ true = sym f ∙ not-false c n in
            let two = every_at _ 0 g in
            record {
              past = past_50;
              fits = g;
              long = record { five = five; records_in = ltb-false (length w) (front (snakes_in w)) (rw two at (or_false_right (ltb (length w) 5) _ uncut)) };
            }

  -- ---- 51 of the records

  module _ (k : Counted w) where
    -- i is the first that does not fit
    module _ (i : ℕ) (e : FirstOut (snakes_in w) (record_fits w) (Some i)) where
      pub record_early : snakes_in w < 65536 → i < 65536
      record_early s = omega (arith, e.0)

      pub record_in_lem : 8 + 4 * i < length w
      record_in_lem = omega (arith, e.0, k.long.records_in)

      pub at_record : (m : ℕ) → m ≡ record_out w i → (x : Refusal) → x ≡ Refusal.OutOfRange m → Faulty w x
      unfolding image_rows ranges_fit range_word
      at_record m z x q =
          let out : all_below (snakes_in w) (record_fits w) ≡ false = first_fails (record_fits w) (snakes_in w) i e in
          let first : i ≡ first_out (snakes_in w) (record_fits w) = first_is (record_fits w) (snakes_in w) i e in
          here 1 x k.past (row Refusal.OutOfRange (range_word w) _ x m q (z ∙ rw (k.fits, first)) (rw (k.fits, out)))

    pub in_range : FirstOut (snakes_in w) (record_fits w) None → InRange w
    unfolding image_rows ranges_fit
    in_range h = record { past = on 1 k.past (rw (k.fits, h)); ranged = ranged_of w k.long (rw (k.fits, h)) }

  -- ---- 52 and 53

  module _ (k : InRange w) (r : Layout) (p : Adds w r) where
    pub at_52 : not r.fits ≡ true → (m : ℕ) → m ≡ start_word w → (x : Refusal) → x ≡ Refusal.Start m → Faulty w x
    unfolding image_rows
    at_52 n m z x q = here 2 x k.past (row Refusal.Start (start_word w) _ x m q z (rw (sym p.starts ∙ not-true r.fits n)))

    module _ (n : not r.fits ≡ false) where
      started : starts_fit w ≡ true
      started = sym p.starts ∙ not-false r.fits n

      past_52 : Past 3 w
      unfolding image_rows
      past_52 = on 2 k.past (rw started)

      pub at_53 : (r.food + get_or w 4 0 ≡ length w → ⊥) → (m : ℕ) → m ≡ min (r.food + get_or w 4 0) (length w) → (x : Refusal) → x ≡ Refusal.Total m → Faulty w x
      unfolding image_rows total_fits total_word
      at_53 h m z x q =
          here 3 x past_52 (row Refusal.Total (total_word w) _ x m q (z ∙ rw p.food_is) (rw (ne_eqb (food_start w + food_count_in w) (length w) (λ y. h (rw p.food_is y)))))

      pub in_place : r.food + get_or w 4 0 ≡ length w → InPlace w
      unfolding image_rows total_fits
      in_place h =
          let whole : food_start w + food_count_in w ≡ length w = rw p.food_is at h in
          record { past = on 3 past_52 (rw (eq-eqb (food_start w + food_count_in w) (length w) whole)); laid = laid_of w k.ranged started whole }

  -- ---- 54

  module _ (k : InPlace w) (c : Bool) (f : c ≡ cells_fit w) where
    pub at_54 : not c ≡ true → (m : ℕ) → m ≡ cell_word w → (x : Refusal) → x ≡ Refusal.CellBeyond m → Faulty w x
    unfolding image_rows
    at_54 n m z x q = here 4 x k.past (row Refusal.CellBeyond (cell_word w) _ x m q z (rw (sym f ∙ not-true c n)))

    pub on_grid : not c ≡ false → OnGrid w
    unfolding image_rows
    on_grid n = let g : cells_fit w ≡ true = sym f ∙ not-false c n in record { past = on 4 k.past (rw g); board = board_of w k.laid g }

  -- ---- 55, and 56 where nothing else is left

  abbrev once : ℕ → Bool
  once i = distinct (body_at w i)

  module _ (k : OnGrid w) where
    -- i is the first snake with a cell twice
    pub at_55 : (i : ℕ) → FirstOut (snakes_in w) once (Some i) → (m : ℕ) → m ≡ start_at w i + twice_in (body_at w i) → (x : Refusal) → x ≡ Refusal.CellTwice m → Faulty w x
    unfolding image_rows bodies_fit twice_word
    at_55 i e m z x q =
        here 5 x k.past (row Refusal.CellTwice (twice_word w) _ x m q (z ∙ rw (first_is once (snakes_in w) i e)) (rw (first_fails once (snakes_in w) i e)))

    module _ (h : FirstOut (snakes_in w) once None) where
      past_55 : Past 6 w
      unfolding image_rows bodies_fit
      past_55 = on 5 k.past (rw h)

      -- with food in order too, no row would hold
      unfed : well_formed w ≡ false → food_fits w ≡ false
      unfolding image_rows
      unfed bad = ⊎_elim (λ t. absurd (true≢false (sym (on 6 past_55 (rw t)).none ∙ no_fault w ∙ bad))) (λ t. t) (tell (food_fits w))

      pub at_56 : (m : ℕ) → m ≡ food_word w → (x : Refusal) → x ≡ Refusal.FoodOrder m → Faulty w x
      unfolding image_rows
      at_56 m z x q = record { answer = λ bad. (here 6 x past_55 (row Refusal.FoodOrder (food_word w) _ x m q z (rw (unfed bad)))).answer bad }

  -- ---- the check

  module _ (b : Bool) (e : Checks w b) where
    pub check_accepts : b ≡ true → Examines w (Ok tt)
    unfolding image_says
    check_accepts t = record { answer = sym (image_given w (Ok tt) (sym e.answer ∙ t)) }

    pub check_refuses : b ≡ false → (x : Refusal) → Faulty w x → Examines w (Err x)
    check_refuses t x f = record { answer = f.answer (sym e.answer ∙ t) }
