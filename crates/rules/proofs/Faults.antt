-- What is wrong with an image: no row holds exactly where it is well-formed, and what its rows say before any other. Assumes nothing.
use Rattle.std.specs.Prelude.{Err}
use Prim.Native.Nat.{ℕ}
use mathlib.Core.Path.{◌≡◌, refl, sym, ap, ◌∙◌}
use mathlib.Core.Bool.{Bool, true, false, not, ◌&&◌, ◌||◌, and-false}
use mathlib.Core.List.{List, [], ◌++◌, append-nil}
use mathlib.Core.Logic.{⊎_elim}
use lib.Dec.{leb, ltb}
use lib.ListN.{length}
use borrow.Author.Tests.{le-leb, lt-leb}
use Rattle.lists.specs.Lists.{every, all}
use Rattle.lists.proofs.Tests.{tell, ordered, less, more, and_left, and_right, every_at, both}
use Rattle.lists.proofs.Lists.{all_append}
use Rattle.rules.specs.Tables.{Table, none_hold}
use Rattle.rules.specs.Image.{front, snakes_in, between, long_enough, contents_fit, ranges_fit, starts_fit, total_fits, cells_fit, bodies_fit, food_fits, well_formed}
use Rattle.rules.specs.Faults.{cut_short, image_rows}
use Rattle.rules.specs.Says.{Says, by_table}
use Rattle.rules.specs.Calls.{image_says}
use Rattle.rules.specs.Promises.{Faulty}
use Rattle.rules.specs.declared.refusal.Refusal.{Refusal}
use Rattle.rules.proofs.Tables.{table_gives, table_after}

not_not : (b : Bool) → not (not b) ≡ b
not_not true = refl
not_not false = refl

not_below : (n k : ℕ) → not (ltb n k) ≡ leb k n
not_below n k = elim (ordered n k) [ less l t ↦ rw (t, lt-leb k n l) | more l t ↦ rw (t, le-leb k n l) ]

not_or : (a b : Bool) → not (a || b) ≡ (not a && not b)
not_or true b = refl
not_or false b = refl

module _ (w : List ℕ) where
  -- with two to eight snakes, contents that are cut short are those that are not long enough
  cut_long : between 2 (snakes_in w) 8 ≡ true → not (cut_short w) ≡ long_enough w
  unfolding cut_short long_enough
  cut_long e = rw (e, not_or (ltb (length w) 5) (ltb (length w) (front (snakes_in w))), not_below (length w) 5, not_below (length w) (front (snakes_in w)))

  -- fitting contents tell of two to eight snakes
  ranged_between : ranges_fit w ≡ true → between 2 (snakes_in w) 8 ≡ true
  unfolding ranges_fit contents_fit
  ranged_between e = every_at _ 0 (and_left (contents_fit w) _ e)

  -- no row holds exactly where the image is well-formed
  pub no_fault : none_hold (image_rows w) ≡ well_formed w
  unfolding image_rows well_formed every all
  no_fault =
      ⊎_elim
      (λ e.
      rw (cut_long (ranged_between e), not_not (ranges_fit w), not_not (starts_fit w), not_not (total_fits w), not_not (cells_fit w), not_not (bodies_fit w), not_not (food_fits w)))
      (λ e. rw e (and-false (not (cut_short w)) ∙ sym (and-false (long_enough w))))
      (tell (ranges_fit w))

-- ---- what a table says that begins with an image's rows

module _ {A : Type 0} (w : List ℕ) (t : Table) (r : Says A) where
  -- past them, of a well-formed image
  pub image_on : well_formed w ≡ true → by_table (image_rows w ++ t) r ≡ by_table t r
  unfolding image_says
  image_on e = table_after (image_rows w) t r ∙ rw (table_gives (image_rows w) _ (no_fault w ∙ e))

  -- the fault that was found, of any other
  pub image_out : well_formed w ≡ false → (x : Refusal) → Faulty w x → Err x ≡ by_table (image_rows w ++ t) r
  unfolding image_says
  image_out e x f = sym (table_after (image_rows w) t r ∙ rw (← (f.answer e)))

-- the same of a table that has no other row
module _ {A : Type 0} (w : List ℕ) (r : Says A) where
  pub image_given : well_formed w ≡ true → by_table (image_rows w) r ≡ r
  image_given e = table_gives (image_rows w) r (no_fault w ∙ e)

  pub image_refused : well_formed w ≡ false → (x : Refusal) → Faulty w x → Err x ≡ by_table (image_rows w) r
  unfolding image_says
  image_refused e x f = sym (ap (λ (l : Table). by_table l r) (sym (append-nil (image_rows w))) ∙ sym (image_out w [] r e x f))

-- no row of such a table holds
pub none_after : (w : List ℕ) (t : Table) → well_formed w ≡ true → none_hold t ≡ true → none_hold (image_rows w ++ t) ≡ true
none_after w t e h = all_append (λ (e : Refusal × Bool). not e.1) (image_rows w) t ∙ both (no_fault w ∙ e) h

-- where none holds, the image is well-formed, and no row after its own holds
module _ (w : List ℕ) (t : Table) (h : none_hold (image_rows w ++ t) ≡ true) where
  halves : (none_hold (image_rows w) && none_hold t) ≡ true
  halves = sym (all_append (λ (e : Refusal × Bool). not e.1) (image_rows w) t) ∙ h

  pub rows_formed : well_formed w ≡ true
  rows_formed = sym (no_fault w) ∙ and_left _ _ halves

  pub rows_after : none_hold t ≡ true
  rows_after = and_right (none_hold (image_rows w)) _ halves
