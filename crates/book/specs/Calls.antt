-- What writing and reading say: by their tables of refusals, or what comes where no row holds. Assumes nothing.
use Rattle.std.specs.Prelude.{ℕ, List, [], length, take, drop, Ok, Err}
use Rattle.rules.specs.Says.{Says, by_table, beside}
use Rattle.rules.specs.declared.Setting.{Setting}
use Rattle.contents.specs.Settings.{setting_in}
use Rattle.contents.specs.Calls.{span_in}
use Rattle.contents.specs.declared.Span.{Span}
use Rattle.book.specs.Book.{book_of}
use Rattle.book.specs.Rows.{row_page}
use Rattle.book.specs.Orders.{page_rows, read_order, write_order}

-- the book's words
unfoldable pub write_says : Setting → ℕ → List ℕ → ℕ → Says (List ℕ)
write_says s p row room = by_table (write_order s p row room) (Ok (book_of s p (row_page row)))

-- where a page lies in the book
unfoldable pub page_says : List ℕ → ℕ → Says Span
page_says b i = by_table (read_order b i) (Ok (span_in b (length b) i))

-- the faults and 21 for the page that was found
abbrev pub then_read : List ℕ → Says Span → Says Span
then_read b (Err k) = Err k
then_read b (Ok q) = by_table (page_rows (setting_in b) (take q.len (drop q.start b))) (Ok q)

-- the part of the book that reading hands back: the page, or the empty part at the book's front
abbrev pub part_at : List ℕ → Says Span → List ℕ
part_at b says = beside (λ q. take q.len (drop q.start b)) [] says

abbrev pub start_at : Says Span → ℕ
start_at says = beside (λ q. q.start) 0 says
