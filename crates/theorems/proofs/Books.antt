-- Demands 1 and 2 of a book's calls (02, wish 1): an answer, or exactly the table's number in the table's order; a refusal leaves every lent word, and an answer
-- the words after those that it wrote; where no row holds, the definition. Assumes nothing.
use Rattle.std.specs.Prelude.{Ok, Err}
use Prim.Native.Nat.{ℕ, zero, suc}
use mathlib.Core.Path.{◌≡◌, refl, sym, ap, ◌∙◌}
use mathlib.Core.Bool.{true}
use mathlib.Core.List.{List, [], ◌∷◌, ◌++◌, append_assoc}
use lib.ListN.{length, take, drop, replicate}
use Rattle.lists.specs.Below.{concat_below}
use Rattle.lists.proofs.Insert.{over_take}
use Rattle.rules.specs.Tables.{Table, none_hold}
use Rattle.rules.specs.Faults.{image_rows}
use Rattle.rules.specs.Says.{Says, seen, lent}
use Rattle.rules.specs.declared.Setting.{Setting}
use Rattle.rules.specs.declared.refusal.Refusal.{Refusal}
use Rattle.contents.specs.Contents.{start_in}
use Rattle.contents.specs.Orders.{layout_rows, start_rows, contents_order, find_order}
use Rattle.contents.specs.Calls.{span_in, find_says}
use Rattle.contents.specs.Promises.{Finds}
use Rattle.book.specs.Book.{book_of}
use Rattle.book.specs.Rows.{row_page}
use Rattle.book.specs.Orders.{page_rows, row_order, read_order, asked_order, write_order}
use Rattle.book.specs.Calls.{page_says, write_says}
use Rattle.book.specs.Promises.{Writes, Pages}
use Rattle.theorems.specs.Answers.{RefusedBy}
use Rattle.theorems.proofs.Refusals.{numbers, setting_numbers, image_numbers, by_rows, by_seen, kept, kept_after}
use Rattle.theorems.proofs.Definitions.{lawful}
use Rattle.rules.specs.Refusals.{code_of}
use Rattle.contents.specs.declared.Span.{Span}

-- ---- the tables' numbers are those of wish 1

-- '40 ..; then 41 no such page'
pub find_order_lem : (c : List ℕ) (n i : ℕ) → numbers (find_order c n i) ≡ replicate 11 40 ++ (41 ∷ [])
unfolding find_order contents_order layout_rows start_rows
find_order_lem c n i = refl

-- '20 and 21 for the page', wish 4's group in 20's place
abbrev pub page_numbers : List ℕ
page_numbers = image_numbers ++ (21 ∷ [])

-- 'reading, 40 ..; then 41 no such page, then 20 and 21 for the page'
pub read_order_lem : (b : List ℕ) (i : ℕ) → numbers (read_order b i) ≡ replicate 11 40 ++ (41 ∷ page_numbers)
unfolding read_order find_order contents_order layout_rows start_rows image_rows
read_order_lem b i = refl

numbers_join : (t u : Table) → numbers (t ++ u) ≡ numbers t ++ numbers u
numbers_join [] u = refl
numbers_join (e ∷ es) u = ap (λ (l : List ℕ). code_of e.0 ∷ l) (numbers_join es u)

numbers_pages : (s : Setting) (row : List ℕ) (p : ℕ) → numbers (concat_below p (λ i. page_rows s (row_page row i))) ≡ concat_below p (λ i. page_numbers)
unfolding concat_below image_rows
numbers_pages s row zero = refl
numbers_pages s row (suc p) =
    numbers_join (concat_below p (λ i. page_rows s (row_page row i))) (page_rows s (row_page row p)) ∙ ap (λ (l : List ℕ). l ++ page_numbers) (numbers_pages s row p)

-- 'writing, the setting's, then 42 above 65,535 pages, then 20 and 21 page by page, then 29'; words after the last page are 53
pub write_order_lem : (s : Setting) (p : ℕ) (row : List ℕ) (room : ℕ)
    → numbers (write_order s p row room) ≡ setting_numbers ++ (42 ∷ (concat_below p (λ i. page_numbers) ++ (53 ∷ 29 ∷ [])))
unfolding write_order asked_order row_order
write_order_lem s p row room =
    ap
    (λ (l : List ℕ). setting_numbers ++ (42 ∷ l))
    (ap numbers (append_assoc (concat_below p (λ i. page_rows s (row_page row i))) _ _)
    ∙ numbers_join (concat_below p (λ i. page_rows s (row_page row i))) _
    ∙ ap (λ (l : List ℕ). l ++ (53 ∷ 29 ∷ [])) (numbers_pages s row p))

-- ---- refused by k if and only if k is the number of the table's first row that holds

pub find_refused : (c : List ℕ) (n i : ℕ) (r : Says Span) → Finds c n i r → RefusedBy Err (find_order c n i) r
unfolding find_says
find_refused c n i r p = by_rows (find_order c n i) (span_in c n i) r p.answer

pub read_refused : (b : List ℕ) (i : ℕ) (r : Says Span) → Pages b i r → RefusedBy Err (read_order b i) r
unfolding page_says
read_refused b i r p = by_rows (read_order b i) (span_in b (length b) i) r p.answer

pub write_refused : (s : Setting) (p : ℕ) (row old new : List ℕ) (r : Says ℕ) → Writes s p row old new r → RefusedBy Err (write_order s p row (length old)) r
unfolding write_says
write_refused s p row old new r w = by_seen _ (write_order s p row (length old)) (book_of s p (row_page row)) r w.answer

-- ---- a refusal leaves every lent word, and an answer the words after those that it wrote

pub write_untouched : (k : Refusal) (s : Setting) (p : ℕ) (row old new : List ℕ) (r : Says ℕ) → Writes s p row old new r → r ≡ Err k → new ≡ old
write_untouched k s p row old new r w e = w.words ∙ kept _ (λ (b : List ℕ). b) old (write_says s p row (length old)) k (sym w.answer ∙ e)

pub write_after : (n : ℕ) (s : Setting) (p : ℕ) (row old new : List ℕ) (r : Says ℕ) → Writes s p row old new r → r ≡ Ok n → drop n new ≡ drop n old
write_after n s p row old new r w e = ap (drop n) w.words ∙ kept_after (λ (b : List ℕ). b) old (write_says s p row (length old)) n (sym w.answer ∙ e)

-- ---- where no row holds, the definition

-- by the contents alone: from the page's start to its end
pub find_is : (c : List ℕ) (n i : ℕ) (r : Says Span) → Finds c n i r → none_hold (find_order c n i) ≡ true → r ≡ Ok (span_in c n i)
unfolding find_says
find_is c n i r p h = p.answer ∙ lawful (find_order c n i) (span_in c n i) h

pub read_is : (b : List ℕ) (i : ℕ) (r : Says Span) → Pages b i r → none_hold (read_order b i) ≡ true → r ≡ Ok (span_in b (length b) i)
unfolding page_says
read_is b i r p h = p.answer ∙ lawful (read_order b i) (span_in b (length b) i) h

-- the words written are the book of the row's pages
pub write_is : (s : Setting) (p : ℕ) (row old new : List ℕ) (r : Says ℕ) → Writes s p row old new r → none_hold (write_order s p row (length old)) ≡ true
    → (r ≡ Ok (length (book_of s p (row_page row)))) × (take (length (book_of s p (row_page row))) new ≡ book_of s p (row_page row))
unfolding write_says
write_is s p row old new r w h =
    let b = book_of s p (row_page row) in
    let e = lawful (write_order s p row (length old)) b h in (
      (w.answer ∙ ap (seen (λ (l : List ℕ). length l)) e),
      ap (take (length b)) (w.words ∙ ap (lent (λ (l : List ℕ). l) old) e) ∙ over_take b old,
    )
