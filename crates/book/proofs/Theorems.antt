-- The book's theorems (02, wish 1). A call is spoken of by its promise, which its code is proved to meet. Assumes nothing.
use Rattle.std.specs.Prelude.{Ok, Err}
use Prim.Native.Nat.{ℕ, ◌+◌, ◌<◌, ◌≤◌}
use native.Mathlib.Omega.{arith}
use mathlib.Core.Path.{◌≡◌, sym, ap, ◌∙◌}
use mathlib.Core.Bool.{true}
use mathlib.Core.List.{List}
use lib.ListN.{length, take, drop}
use denote.Ref.{Bor}
use Rattle.boards.specs.Boards.{Under}
use Rattle.lists.specs.Below.{concat_below}
use Rattle.rules.specs.Tables.{none_hold}
use Rattle.lists.proofs.Insert.{over_take}
use Rattle.rules.specs.Says.{Says, seen, lent, by_table}
use Rattle.rules.specs.declared.Setting.{Setting}
use Rattle.rules.proofs.Tables.{and_then}
use Rattle.image.specs.Memory.{word_place}
use Rattle.rules.specs.declared.refusal.Refusal.{Refusal}
use Rattle.contents.specs.Settings.{setting_in}
use Rattle.contents.specs.Contents.{front, pages_in}
use Rattle.book.specs.Book.{book_of, page_in}
use Rattle.contents.specs.Orders.{contents_order}
use Rattle.book.specs.Orders.{page_rows}
use Rattle.book.specs.Rows.{row_start, row_page}
use Rattle.book.specs.Bindable.{Bindable, Whole}
use Rattle.contents.specs.Calls.{find_says}
use Rattle.contents.specs.declared.Span.{Span}
use Rattle.book.specs.Calls.{write_says, page_says, then_read, part_at}
use Rattle.contents.specs.Promises.{Finds}
use Rattle.book.specs.Promises.{Writes, Hands}
use Rattle.book.specs.Read.{PageChecks}
use Rattle.book.proofs.Binding as binding
use Rattle.contents.proofs.Alone as alone
use Rattle.book.proofs.Bound.{bound_pages, bound_setting, bound_page, bound_rest}
use Rattle.book.proofs.OneForm as form
use Rattle.contents.proofs.Finding.{accepted}
use Rattle.book.proofs.Paging.{table_verdict, page_says_lem, page_words, page_formed, page_same}
use Rattle.book.proofs.RowLaws.{pages_all, pages_long}

-- ---- 'Reading what was written gives the same pages'

module _ (s : Setting) (p : ℕ) (row : List ℕ) (room : ℕ) (b : List ℕ) (e : write_says s p row room ≡ Ok b) where
  -- the setting and the number of pages
  pub written_setting : setting_in b ≡ s
  written_setting = let k = binding.written_binds s p row room b e in rw (← (binding.written_is s p row room b e)) (bound_setting s p (row_page row) k.accepted)

  pub written_pages : pages_in b ≡ p
  written_pages = rw (← (binding.written_is s p row room b e)) (bound_pages s p (row_page row))

  -- the row stands after the contents
  pub written_row : drop (front p) b ≡ row
  written_row = rw (← (binding.written_is s p row room b e)) (bound_rest s p (row_page row) ∙ pages_all p row (binding.written_fits s p row room b e))

  -- every page lies where its image was put, and reading it says so
  pub written_reads : (i : ℕ) → i < p → page_says b i ≡ Ok (record { start = front p + row_start row i; len = length (row_page row i) })
  written_reads i h =
      let n : length (concat_below i (row_page row)) ≡ row_start row i = pages_long p row (binding.written_fits s p row room b e) i (omega arith) in
      rw (← (binding.written_is s p row room b e), ← n) (binding.bound_reads s p (row_page row) (binding.written_binds s p row room b e) i h)

  pub written_words : (i : ℕ) → i < p → part_at b (page_says b i) ≡ row_page row i
  written_words i h =
      let q = written_reads i h in
      rw q (page_words b i _ q ∙ ap (λ (l : List ℕ). page_in l i) (sym (binding.written_is s p row room b e)) ∙ bound_page s p (row_page row) i h)

-- of the calls' answers: what `write` wrote, lent to the reader, is read page by page; n is the answer's count of words
module _ (s : Setting) (p : ℕ) (row old new : List ℕ) (n : ℕ) (w : Writes s p row old new (Ok n)) where
  book_given : (x : Says (List ℕ)) → Ok n ≡ seen (λ b. length b) x → new ≡ lent (λ b. b) old x → x ≡ Ok (take n new)
  book_given (Err k) a q = let z : ◌≡◌ {A = ℕ} 0 1 = cc in absurd (omega arith)
  book_given (Ok b) a q =
      let long : n ≡ length b = cc in
      ap Ok (sym (rw (long, q) (over_take b old)))

  pub write_gives : write_says s p row (length old) ≡ Ok (take n new)
  write_gives = book_given (write_says s p row (length old)) w.answer w.words

  pub write_then_read : (book r : Bor (List ℕ)) → book.now ≡ take n new → (i : ℕ) → i < p → Hands book i r
      → (r.now ≡ row_page row i) × (r.ref_ptr ≡ word_place book (front p + row_start row i))
  write_then_read book r q i h a =
      let e : write_says s p row (length old) ≡ Ok book.now = write_gives ∙ ap Ok (sym q) in
      (a.words ∙ written_words s p row (length old) book.now e i h, a.place ∙ rw (written_reads s p row (length old) book.now e i h))

-- ---- 'a book has one form only'

-- the row of a book: what stands after its contents
abbrev row_of : List ℕ → List ℕ
row_of b = drop (front (pages_in b)) b

module _ (b : List ℕ) (words : Under 65536 b) (ok : Whole b) where
  -- an accepted book with accepted pages is bound of them
  pub whole_form : book_of (setting_in b) (pages_in b) (page_in b) ≡ b
  whole_form = form.one_form b words (accepted b (length b) ok.contents)

  whole_binds : Bindable (setting_in b) (pages_in b) (page_in b)
  whole_binds = record { accepted = (accepted b (length b) ok.contents).setting; few = omega (arith, words 16); formed = ok.formed; same = ok.same }

  -- and writing them gives it
  pub whole_written : (room : ℕ) → length b ≤ room → write_says (setting_in b) (pages_in b) (row_of b) room ≡ Ok b
  whole_written room h =
      let z : length (book_of (setting_in b) (pages_in b) (page_in b)) ≤ room = rw whole_form h in
      let q = binding.line_writes (setting_in b) (pages_in b) (page_in b) whole_binds room z in
      rw (form.pages_body b words (accepted b (length b) ok.contents), whole_form) at q

-- of the calls' answers: a book is whole where no row of 40 holds and each of its pages is read
pub read_whole : (b : List ℕ) → none_hold (contents_order b (length b)) ≡ true → ((i : ℕ) → i < pages_in b → (q : Span) × (page_says b i ≡ Ok q)) → Whole b
read_whole b h all = record {
  contents = h;
  formed = λ i l. page_formed b i (all i l).0 (all i l).1;
  same = λ i l. page_same b i (all i l).0 (all i l).1;
}

-- two settings or two rows never give one book
pub one_book : (s t : Setting) (p q : ℕ) (row line : List ℕ) (room other : ℕ) (b : List ℕ) → write_says s p row room ≡ Ok b → write_says t q line other ≡ Ok b
    → (s ≡ t) × (p ≡ q) × (row ≡ line)
one_book s t p q row line room other b e f =
    let n : p ≡ q = sym (written_pages s p row room b e) ∙ written_pages t q line other b f in (
      sym (written_setting s p row room b e) ∙ written_setting t q line other b f,
      n,
      sym (written_row s p row room b e) ∙ ap (λ (k : ℕ). drop (front k) b) n ∙ written_row t q line other b f,
    )

-- ---- a page is found by the contents alone, and only its own part of the book is then read

module _ (b : List ℕ) (k : ℕ) (h : front (pages_in b) ≤ k) (i : ℕ) where
  -- of the first k words of a book, the contents among them, and the book's length `find` says what 40 and 41 of the whole book say, and where the page lies
  pub find_alone : find_says (take k b) (length b) i ≡ find_says b (length b) i
  find_alone = alone.front_finds b k h i

  -- so reading is finding, and then the faults and 21 of the part that was found
  pub find_then_read : page_says b i ≡ then_read b (find_says (take k b) (length b) i)
  find_then_read = page_says_lem b i ∙ ap (then_read b) (sym find_alone)

  -- of the calls' answers: `find` refuses as reading does
  pub find_refuses : (x : Refusal) → Finds (take k b) (length b) i (Err x) → page_says b i ≡ Err x
  find_refuses x f = find_then_read ∙ ap (then_read b) (sym f.answer)

  -- and where it gives a part, reading says the verdict on that part, by the setting in the contents, or that part
  pub find_reads : (start size : ℕ) → Finds (take k b) (length b) i (Ok (record { start = start; len = size })) → (v : Says (Unit {0})) → PageChecks (setting_in (take k b)) (take size (drop start b)) v
      → page_says b i ≡ and_then v (Ok (record { start = start; len = size }))
  find_reads start size f v g =
      let rows = page_rows (setting_in b) (take size (drop start b)) in
      let z : v ≡ by_table rows (Ok (tt {0})) = rw (alone.front_setting b k h) at g.says in
      find_then_read
      ∙ ap (then_read b) (sym f.answer)
      ∙ table_verdict rows (Ok (record { start = start; len = size }))
      ∙ rw (← z)
