-- Wish 1's refusals as tables, with wish 4's in 20's place: a row is a refusal and when it is given. Words count from the page's own start. Assumes nothing.
use Rattle.std.specs.Prelude.{ℕ, ◌-◌, List, [], ◌∷◌, ◌++◌, ltb, length}
use Rattle.lists.specs.Below.{concat_below}
use Rattle.rules.specs.Tables.{Table}
use Rattle.rules.specs.Faults.{image_rows}
use Rattle.rules.specs.Orders.{differs}
use Rattle.rules.specs.Setting.{setting_order}
use Rattle.rules.specs.declared.Setting.{Setting}
use Rattle.contents.specs.Settings.{setting_in}
use Rattle.contents.specs.Orders.{find_order}
use Rattle.book.specs.Book.{book_of, page_in}
use Rattle.book.specs.Rows.{row_start, row_page}
use Rattle.rules.specs.declared.refusal.Refusal.TheVariants as Refusal

-- '20 and 21 for the page'; 'where 20 stood in an order, the whole group stands'
abbrev pub page_rows : Setting → List ℕ → Table
page_rows s w = image_rows w ++ ((Refusal.OtherSetting, differs s w) ∷ [])

-- ---- reading

-- 'reading, 40 ..; then 41 no such page, then 20 and 21 for the page'
unfoldable pub read_order : List ℕ → ℕ → Table
read_order b i = find_order b (length b) i ++ page_rows (setting_in b) (page_in b i)

-- ---- writing

-- where the words after the last page begin, from that page's own start; 0 where there is no page
abbrev pub left_at : List ℕ → ℕ → ℕ
left_at row p = row_start row p - row_start row (p - 1)

-- '20 and 21 page by page'; 'words after the last, tested after its 21, are 20 too': a total length that is wrong, 53
unfoldable pub row_order : Setting → ℕ → List ℕ → Table
row_order s p row = concat_below p (λ i. page_rows s (row_page row i)) ++ ((Refusal.Total (left_at row p), ltb (row_start row p) (length row)) ∷ [])

-- 'writing, the setting's, then 42 above 65,535 pages, then 20 and 21 page by page'
unfoldable pub asked_order : Setting → ℕ → List ℕ → Table
asked_order s p row = setting_order s ++ ((Refusal.Pages, ltb 65535 p) ∷ row_order s p row)

-- 'then 29'; room is the length of the lent buffer
unfoldable pub write_order : Setting → ℕ → List ℕ → ℕ → Table
write_order s p row room = asked_order s p row ++ ((Refusal.Buffer, ltb room (length (book_of s p (row_page row)))) ∷ [])
