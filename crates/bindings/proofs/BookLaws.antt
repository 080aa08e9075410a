-- A book's answers lose nothing: no call on a book refuses by 0, a page's place read back is what was said, and the page stands there. Assumes nothing.
use Rattle.std.specs.Prelude.{Ok, Err}
use Prim.Native.Nat.{ℕ, zero, suc, ◌-◌, ◌<◌}
use mathlib.Core.Path.{◌≡◌, refl, sym, ap, ◌∙◌}
use mathlib.Core.Bool.{true}
use mathlib.Core.List.{List, [], ◌∷◌}
use native.Mathlib.Omega.{arith}
use borrow.Author.Tests.{lt-ltb}
use lib.Dec.{ltb}
use lib.ListN.{length, get_or, take, drop}
use Rattle.lists.specs.Below.{concat_below}
use Rattle.lists.specs.Lists.{all}
use Rattle.rules.specs.Tables.{Table, none_hold}
use Rattle.rules.specs.Says.{Says, by_table}
use Rattle.rules.specs.Setting.{setting_order}
use Rattle.rules.proofs.Tables.{and_then, table_both, table_after, table_given}
use Rattle.rules.specs.declared.Setting.{Setting}
use Rattle.contents.specs.Orders.{layout_rows, start_rows, contents_order, find_order}
use Rattle.contents.specs.declared.Span.{Span}
use Rattle.contents.specs.Settings.{setting_in}
use Rattle.book.specs.Book.{page_in}
use Rattle.book.specs.Rows.{row_start, row_page}
use Rattle.book.specs.Orders.{page_rows, left_at, row_order, read_order, asked_order, write_order}
use Rattle.book.specs.Calls.{write_says, page_says, part_at}
use Rattle.book.proofs.RowLaws.{rows, blocks_each, page_early}
use Rattle.bindings.specs.Exports.{span_numbers, Tells}
use Rattle.bindings.proofs.Theorems.{named, table_named, given_named, both_named, after_image, setting_rows}
use Rattle.rules.specs.declared.refusal.Refusal.TheVariants as Refusal

-- ---- no call refuses by 0, and what each says fits one number

-- the words after the last page begin no farther from its start than it is long
left_few : (s : Setting) (p : ℕ) (row : List ℕ) → none_hold (concat_below p (rows s row)) ≡ true → left_at row p < 65536
unfolding row_start
left_few s zero row h = omega arith
left_few s (suc p) row h =
    let e : suc p - 1 ≡ p = omega arith in
    rw e (omega (arith, page_early s row p (blocks_each (rows s row) (suc p) p (omega arith) h)))

-- a page's own rows
page_rows_named : {A : Type 0} (s : Setting) (w : List ℕ) (r : Says A) → named r ≡ true → named (by_table (page_rows s w) r) ≡ true
unfolding all
page_rows_named s w r n = after_image w _ r (table_named _ r refl n)

pages_named : {A : Type 0} (s : Setting) (row : List ℕ) (p : ℕ) (r : Says A) → named r ≡ true → named (by_table (concat_below p (rows s row)) r) ≡ true
unfolding concat_below by_table
pages_named s row zero r n = n
pages_named s row (suc p) r n = ap named (table_both (concat_below p (rows s row)) (rows s row p) r) ∙ pages_named s row p _ (page_rows_named s (row_page row p) r n)

-- the pages' rows, and 53 for words after the last
row_named : {A : Type 0} (s : Setting) (p : ℕ) (row : List ℕ) (r : Says A) → named r ≡ true → named (by_table (row_order s p row) r) ≡ true
unfolding row_order named all
row_named s p row r n =
    let left : Table = (Refusal.Total (left_at row p), ltb (row_start row p) (length row)) ∷ [] in
    ap named (table_after (concat_below p (rows s row)) left r) ∙ go left (by_table (concat_below p (rows s row)) (Ok (tt {0}))) refl (λ h. table_named left r (rw (lt-ltb (left_at row p) 65536 (left_few s p row h))) n)
  where
    go : (left : Table) (x : Says (Unit {0})) → by_table (concat_below p (rows s row)) (Ok (tt {0})) ≡ x
        → (none_hold (concat_below p (rows s row)) ≡ true → named (by_table left r) ≡ true) → named (and_then x (by_table left r)) ≡ true
    go left (Err k) e f = ap named (sym e) ∙ pages_named s row p (Ok (tt {0})) (given_named (tt {0}))
    go left (Ok u) e f = f (table_given (concat_below p (rows s row)) tt u e).0

pub write_named : (s : Setting) (p : ℕ) (row : List ℕ) (room : ℕ) → named (write_says s p row room) ≡ true
unfolding write_says write_order asked_order all
write_named s p row room =
    both_named (asked_order s p row) _ _
    (both_named (setting_order s) ((Refusal.Pages, ltb 65535 p) ∷ row_order s p row) (Ok (tt {0})) (setting_rows s (Ok (tt {0})) (given_named (tt {0})))
    (both_named ((Refusal.Pages, ltb 65535 p) ∷ []) (row_order s p row) (Ok (tt {0})) (table_named _ (Ok (tt {0})) refl (given_named (tt {0}))) (row_named s p row (Ok (tt {0})) (given_named (tt {0})))))
    (table_named _ _ refl (given_named _))

pub page_named : (b : List ℕ) (i : ℕ) → named (page_says b i) ≡ true
unfolding page_says read_order find_order contents_order layout_rows start_rows all
page_named b i = both_named (find_order b (length b) i) _ _ (table_named (find_order b (length b) i) (Ok (tt {0})) refl (given_named (tt {0}))) (page_rows_named (setting_in b) (page_in b i) _ (given_named _))

-- ---- reading back

abbrev span_in : List ℕ → Span
span_in l = record { start = get_or l 0 0; len = get_or l 1 0 }

pub span_back : (q : Span) → span_in (span_numbers q) ≡ q
span_back q = refl

-- the words there are the part that reading hands back
pub page_part : (b : List ℕ) (q : Span) (old new : List ℕ) (r : ℕ) → Tells span_numbers (Ok q) old new r → take (get_or new 1 0) (drop (get_or new 0 0) b) ≡ part_at b (Ok q)
page_part b q old new r t = rw t.answer
