-- A writer's row, page by page: how long an image says that it is, which refusal comes, and what a row that passes tells. Assumes nothing.
use Rattle.std.specs.Prelude.{Ok, Err}
use Prim.Native.Nat.{ℕ, zero, suc, ◌+◌, ◌*◌, ◌-◌, ◌<◌, ◌≤◌, min}
use native.Mathlib.Nat.{min-le_right, min-eq_left, le_refl}
use native.Mathlib.Numerals.{add-one}
use native.Mathlib.Omega.{arith}
use mathlib.Core.Path.{◌≡◌, refl, sym, ap, ◌∙◌}
use mathlib.Core.Bool.{Bool, true, false, not}
use mathlib.Core.List.{List, [], ◌∷◌, ◌++◌}
use mir.Syntax.{w64}
use mir.Val.{Fits}
use lib.Dec.{ltb}
use lib.ListN.{length, take, drop, length-drop}
use lib.Seq.{take_all, take-add, length-take-le}
use borrow.Author.Tests.{lt-ltb, le-ltb, ltb-false, le-leb, lt-leb}
use Rattle.lists.specs.Choice.{◌if◌else◌}
use Rattle.lists.specs.Below.{sum_below, concat_below}
use Rattle.lists.specs.Lists.{all}
use Rattle.rules.specs.Tables.{Table, none_hold}
use Rattle.rules.specs.Says.{Says, by_table}
use Rattle.lists.proofs.Below.{sum_none, sum_next}
use Rattle.lists.proofs.Concat.{block_split}
use Rattle.lists.proofs.Lists.{rest_is, all_append}
use Rattle.rules.proofs.Tables.{and_then, row_out, table_gives, table_both, table_after, table_given, table_first, table_refuses}
use Rattle.rules.proofs.Faults.{rows_formed, rows_after}
use Rattle.lists.proofs.Tests.{ordered, less, more, both, and_left, and_right}
use Rattle.rules.specs.Image.{front, snakes_in, length_at, food_start, food_count_in, long_enough, well_formed}
use Rattle.rules.specs.Orders.{differs}
use Rattle.rules.specs.declared.Setting.{Setting}
use Rattle.rules.proofs.Facts.{sound}
use Rattle.rules.specs.declared.refusal.Refusal.{Refusal}
use Rattle.book.specs.Orders.{page_rows, left_at, row_order}
use Rattle.contents.specs.Read.{Word}
use Rattle.book.specs.Read.{PageChecks}
use Rattle.book.specs.Rows.{told_length, row_start, row_page}
use Rattle.book.specs.Writing.{Summed, Told, Next, RowChecks, Passed, RowFits}
use Rattle.book.proofs.Paging.{table_verdict}
use Rattle.rules.specs.declared.refusal.Refusal.TheVariants as Refusal

-- where no row of two tables holds, none of either does
pub halves : (t u : Table) → none_hold (t ++ u) ≡ true → (none_hold t ≡ true) × (none_hold u ≡ true)
halves t u h =
    let e = sym (all_append (λ (e : Refusal × Bool). not e.1) t u) ∙ h in
    (and_left (none_hold t) (none_hold u) e, and_right (none_hold t) (none_hold u) e)

-- ---- the length that contents tell

module _ (w : List ℕ) (n : ℕ) where
  pub sum_start : Summed w n 0 0
  sum_start = record { here = omega arith; sum = sym (sum_none (length_at w)); small = omega arith }

  pub sum_more : (i s x : ℕ) → Summed w n i s → Word w (6 + 4 * i) x → i < n → Summed w n (i + 1) (s + x)
  sum_more i s x q v h = record { here = omega arith; sum = rw (q.sum, v.value) (sym (sum_next (length_at w) i)); small = omega (arith, q.small, v.small) }

  pub sum_all : (i s : ℕ) → Summed w n i s → n ≤ i → Summed w n n s
  sum_all i s q h = let e : i ≡ n = omega (arith, q.here) in rw e at q

module _ (w : List ℕ) where
  pub told_by : (t : Bool) → long_enough w ≡ t → told_length w ≡ (min (food_start w + food_count_in w) (length w) if t else length w)
  unfolding told_length
  told_by t e = rw e

  -- never more than there are
  pub told_inside : told_length w ≤ length w
  told_inside = go (long_enough w) refl
    where
      go : (t : Bool) → long_enough w ≡ t → told_length w ≤ length w
      go true e = rw (told_by true e) (min-le_right (food_start w + food_count_in w) (length w))
      go false e = rw (told_by false e) (omega arith)

  told : (r : ℕ) → r ≡ told_length w → Told w r
  told r e = record { length_told = e; inside = rw e told_inside }

  pub told_five : length w < 5 → Told w (length w)
  unfolding long_enough
  told_five h = told (length w) (sym (told_by false (rw (lt-leb 5 (length w) h))))

  module _ (n : ℕ) (v : Word w 0 n) where
    pub told_short : 5 ≤ length w → length w < 5 + 4 * n → Told w (length w)
    unfolding long_enough
    told_short g h = told (length w) (sym (told_by false (rw (le-leb 5 (length w) g, ← v.value, lt-leb (5 + 4 * n) (length w) h))))

    pub told_is : 5 ≤ length w → 5 + 4 * n ≤ length w → (s f : ℕ) → Summed w n n s → Word w 4 f → (r : ℕ) → r ≡ min (5 + 4 * n + s + f) (length w) → Told w r
    unfolding long_enough
    told_is g h s f q u r m =
        let e : n ≡ snakes_in w = v.value in
        let z : sum_below n (length_at w) ≡ sum_below (snakes_in w) (length_at w) = ap (λ (k : ℕ). sum_below k (length_at w)) e in
        let total : 5 + 4 * n + s + f ≡ food_start w + food_count_in w = omega (arith, q.sum, u.value, z) in
        told r (m ∙ ap (λ (k : ℕ). min k (length w)) total ∙ sym (told_by true (rw (le-leb 5 (length w) g, ← v.value, le-leb (5 + 4 * n) (length w) h))))

  -- of a well-formed image it is the length
  pub told_formed : well_formed w ≡ true → told_length w ≡ length w
  unfolding long_enough
  told_formed e =
      let s = sound w e in
      told_by true (rw (le-leb 5 (length w) s.five, le-leb (front (snakes_in w)) (length w) s.records_in)) ∙ rw s.total (min-eq_left (le_refl (length w)))

-- ---- one page

-- v is the verdict on the page that the contents tell
module _ (s : Setting) (rest : List ℕ) (len : ℕ) (q : Told rest len) (v : Says (Unit {0})) (f : PageChecks s (take len rest) v) where
  next_of : (r : Says ℕ) → r ≡ and_then v (Ok len) → Next s rest r
  next_of r e =
      let rows = page_rows s (take len rest) in
      let z : r ≡ by_table rows (Ok len) = e ∙ sym (table_verdict rows (Ok len) ∙ rw (← f.says)) in
      record { says = rw q.length_told at z; inside = omega (arith, q.length_told, q.inside) }

  pub next_out : (k : Refusal) → v ≡ Err k → Next s rest (Err k)
  next_out k e = next_of (Err k) (rw e)

  pub next_in : v ≡ Ok tt → Next s rest (Ok len)
  next_in e = next_of (Ok len) (rw e)

-- ---- page by page

module _ (t : ℕ → Table) where
  pub blocks_none : (i : ℕ) → ((j : ℕ) → j < i → none_hold (t j) ≡ true) → none_hold (concat_below i t) ≡ true
  unfolding concat_below all
  blocks_none zero h = refl
  blocks_none (suc i) h =
      all_append (λ (e : Refusal × Bool). not e.1) (concat_below i t) (t i) ∙ both (blocks_none i (λ j l. h j (omega arith))) (h i (omega arith))

  module _ {A : Type 0} (r : Says A) (i : ℕ) (none : (j : ℕ) → j < i → none_hold (t j) ≡ true) (u : Table) where
    pub blocks_then : by_table (concat_below i t ++ u) r ≡ by_table u r
    blocks_then = table_both (concat_below i t) u r ∙ table_gives (concat_below i t) (by_table u r) (blocks_none i none)

  -- the first block with a row that holds
  pub blocks_first : (i p : ℕ) (u : Table) (k : Refusal) → i < p → ((j : ℕ) → j < i → none_hold (t j) ≡ true) → by_table (t i) (Ok (tt {0})) ≡ Err k
      → by_table (concat_below p t ++ u) (Ok (tt {0})) ≡ Err k
  blocks_first i p u k h none some =
      ap (λ (l : Table). by_table l (Ok (tt {0}))) (block_split t i p h u)
      ∙ blocks_then (Ok (tt {0})) i none _
      ∙ table_after (t i) _ (Ok (tt {0}))
      ∙ rw some

pub start_next : (row : List ℕ) (i : ℕ) → row_start row (i + 1) ≡ row_start row i + told_length (drop (row_start row i) row)
unfolding row_start
start_next row i = rw add-one

module _ (s : Setting) (row : List ℕ) where
  abbrev pub rows : ℕ → Table
  rows i = page_rows s (row_page row i)

  module _ (p : ℕ) where
    pub passed_none : Passed s row p 0 0 0
    unfolding row_start
    passed_none = record { here = omega arith; start = refl; inside = omega arith; last_is = refl; none = λ j h. absurd (omega (arith, h)) }

    module _ (i at last : ℕ) (q : Passed s row p i at last) where
      module _ (r : Says ℕ) (y : Next s (take (length row - at) (drop at row)) r) where
        x : Next s (drop at row) r
        x = rw (rest_is row at) at y

        page_says_lem : r ≡ by_table (rows i) (Ok (told_length (drop (row_start row i) row)))
        unfolding row_page
        page_says_lem = rw q.start at x.says

        pub row_stops : (k : Refusal) → r ≡ Err k → i < p → RowChecks s p row (Err k)
        unfolding row_order
        row_stops k z h =
            let none = table_first (rows i) (Ok (tt {0})) k (table_refuses (rows i) _ k (sym page_says_lem ∙ z)) in
            record { says = sym (blocks_first rows i p _ k h q.none none) }

        -- a page of n words has passed
        module _ (n : ℕ) (e : r ≡ Ok n) where
          page_given : (none_hold (rows i) ≡ true) × (told_length (drop (row_start row i) row) ≡ n)
          page_given = table_given (rows i) _ n (sym page_says_lem ∙ e)

          next_start : at + n ≡ row_start row (i + 1)
          next_start = omega (arith, start_next row i, q.start, page_given.1)

          -- where its words end
          pub passed_in : at + n ≤ length row
          passed_in =
              let here = ap (λ (a : ℕ). told_length (drop a row)) q.start in
              omega (arith, here, page_given.1, x.inside, length-drop at row, q.inside)

          pub passed_fits : Fits w64 (length row) → Fits w64 (at + n)
          passed_fits f = omega (arith, passed_in, f)

          pub passed_next : i < p → Passed s row p (i + 1) (at + n) n
          passed_next h = record {
            here = omega arith;
            start = next_start;
            inside = passed_in;
            last_is = let e : i + 1 - 1 ≡ i = omega arith in rw e (omega (arith, next_start, q.start));
            none = λ j l. elim (ordered j i) [
              | less k t ↦ q.none j k
              | more k t ↦ let e : j ≡ i = omega arith in rw e page_given.0
            ];
          }

      module _ (h : p ≤ i) where
        end : i ≡ p
        end = omega (arith, q.here)

        last_start : at ≡ row_start row p
        last_start = q.start ∙ ap (row_start row) end

        past : by_table (row_order s p row) (Ok (tt {0})) ≡ by_table ((Refusal.Total (left_at row p), ltb (row_start row p) (length row)) ∷ []) (Ok (tt {0}))
        unfolding row_order
        past = blocks_then rows (Ok (tt {0})) p (λ j l. q.none j (omega arith)) _

        pub row_left : at < length row → RowChecks s p row (Err (Refusal.Total last))
        unfolding by_table
        row_left g =
            let e : last ≡ left_at row p = q.last_is ∙ ap (λ (k : ℕ). left_at row k) end in
            record { says = ap (λ (n : ℕ). Err (Refusal.Total n)) e ∙ sym (past ∙ rw (lt-ltb (row_start row p) (length row) (rw last_start at g))) }

        pub row_done : length row ≤ at → RowChecks s p row (Ok tt)
        unfolding by_table
        row_done g = record { says = sym (past ∙ rw (le-ltb (row_start row p) (length row) (rw last_start at g))) }

-- ---- a row that passes

pub blocks_each : (t : ℕ → Table) (p j : ℕ) → j < p → none_hold (concat_below p t) ≡ true → none_hold (t j) ≡ true
unfolding concat_below
blocks_each t zero j h z = absurd (omega (arith, h))
blocks_each t (suc p) j h z =
    let e = halves (concat_below p t) (t p) z in
    elim (ordered j p) [ less l q ↦ blocks_each t p j l e.0 | more l q ↦ let last : j ≡ p = omega arith in rw last e.1 ]

-- the pages, one after the other, are the front of the row
pub pages_are : (row : List ℕ) (i : ℕ) → concat_below i (row_page row) ≡ take (row_start row i) row
unfolding concat_below row_start row_page
pages_are row zero = refl
pages_are row (suc i) =
    let a = row_start row i in
    let k = told_length (drop a row) in
    ap (λ (l : List ℕ). l ++ take k (drop a row)) (pages_are row i) ∙ sym (take-add a k row)

-- a page that passes
module _ (s : Setting) (row : List ℕ) (i : ℕ) (none : none_hold (rows s row i) ≡ true) where
  page_formed : well_formed (row_page row i) ≡ true
  page_formed = rows_formed (row_page row i) _ none

  page_same : differs s (row_page row i) ≡ false
  page_same = row_out ((Refusal.OtherSetting, differs s (row_page row i)) ∷ []) 0 (rows_after (row_page row i) _ none)

  pub page_early : told_length (drop (row_start row i) row) ≤ 9253
  unfolding row_page
  page_early =
      let w = drop (row_start row i) row in
      let e : length (take (told_length w) w) ≡ told_length w = length-take-le (told_length w) w (told_inside w) in
      omega (arith, (sound (take (told_length w) w) page_formed).small)

module _ (s : Setting) (p : ℕ) (row : List ℕ) (h : none_hold (row_order s p row) ≡ true) where
  abbrev parts : ℕ → Table
  parts i = rows s row i

  abbrev left_row : Table
  left_row = (Refusal.Total (left_at row p), ltb (row_start row p) (length row)) ∷ []

  both_parts : (none_hold (concat_below p parts) ≡ true) × (none_hold left_row ≡ true)
  unfolding row_order
  both_parts = halves (concat_below p parts) left_row h

  module _ (i : ℕ) (l : i < p) where
    page_none : none_hold (parts i) ≡ true
    page_none = blocks_each parts p i l both_parts.0

    pub row_formed : well_formed (row_page row i) ≡ true
    row_formed = page_formed s row i page_none

    pub row_same : differs s (row_page row i) ≡ false
    row_same = page_same s row i page_none

    page_small : told_length (drop (row_start row i) row) ≤ 9253
    page_small = page_early s row i page_none

  start_in_lem : (i : ℕ) → i ≤ p → row_start row i ≤ length row
  unfolding row_start
  start_in_lem zero g = omega arith
  start_in_lem (suc i) g = omega (arith, start_in_lem i (omega arith), told_inside (drop (row_start row i) row), length-drop (row_start row i) row)

  start_small : (i : ℕ) → i ≤ p → row_start row i ≤ 9253 * i
  unfolding row_start
  start_small zero g = omega arith
  start_small (suc i) g = omega (arith, start_small i (omega arith), page_small i g)

  start_end : row_start row p ≡ length row
  start_end = let l = ltb-false (row_start row p) (length row) (row_out left_row 0 both_parts.1) in omega (arith, start_in_lem p (omega arith))

  pub row_fits : p ≤ 65535 → RowFits p row
  row_fits few = record { few = few; starts = start_in_lem; small = start_small; all = start_end; some = omega (arith, start_end, start_small p (omega arith)) }

module _ (p : ℕ) (row : List ℕ) (f : RowFits p row) where
  -- all pages are the row
  pub pages_all : concat_below p (row_page row) ≡ row
  pages_all = pages_are row p ∙ take_all (row_start row p) row (omega (arith, f.all))

  pub pages_long : (i : ℕ) → i ≤ p → length (concat_below i (row_page row)) ≡ row_start row i
  pages_long i h = ap length (pages_are row i) ∙ length-take-le (row_start row i) row (f.starts i h)
