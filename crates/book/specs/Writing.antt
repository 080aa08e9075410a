-- What the functions of the writer ensure and require. Assumes nothing.
use Rattle.std.specs.Prelude.{ℕ, ◌-◌, ◌*◌, ◌≤◌, ◌<◌, ◌≡◌, true, List, length, take, Ok}
use Rattle.lists.specs.Below.{sum_below, concat_below}
use Rattle.lists.specs.Lists.{write_at}
use Rattle.rules.specs.Tables.{none_hold}
use Rattle.rules.specs.Says.{Says, by_table}
use Rattle.rules.specs.Image.{length_at}
use Rattle.rules.specs.declared.Setting.{Setting}
use Rattle.contents.specs.Settings.{pair_words}
use Rattle.contents.specs.Contents.{start_of, contents_of}
use Rattle.book.specs.Orders.{page_rows, row_order, asked_order}
use Rattle.book.specs.Rows.{told_length, row_start, row_page}

-- the first i of n lengths, added up
pub record Summed (w : List ℕ) (n i r : ℕ) : Type 0 where
  pub here : i ≤ n
  pub sum : r ≡ sum_below i (length_at w)
  pub small : r ≤ 65536 * i

pub record Told (w : List ℕ) (r : ℕ) : Type 0 where
  pub length_told : r ≡ told_length w
  pub inside : r ≤ length w

-- the page at the front of w, and its length
pub record Next (s : Setting) (w : List ℕ) (r : Says ℕ) : Type 0 where
  pub says : r ≡ by_table (page_rows s (take (told_length w) w)) (Ok (told_length w))
  pub inside : told_length w ≤ length w

pub record RowChecks (s : Setting) (p : ℕ) (row : List ℕ) (r : Says (Unit {0})) : Type 0 where
  pub says : r ≡ by_table (row_order s p row) (Ok tt)

-- the first i pages of a row have passed, the last of them has `last` words, and the next starts at `at`
pub record Passed (s : Setting) (row : List ℕ) (p i at last : ℕ) : Type 0 where
  pub here : i ≤ p
  pub start : at ≡ row_start row i
  pub inside : at ≤ length row
  pub last_is : last ≡ row_start row i - row_start row (i - 1)
  pub none : (j : ℕ) → j < i → none_hold (page_rows s (row_page row j)) ≡ true

-- every refusal but 29
pub record Asked (s : Setting) (p : ℕ) (row : List ℕ) (r : Says (Unit {0})) : Type 0 where
  pub says : r ≡ by_table (asked_order s p row) (Ok tt)

pub record AskedNone (s : Setting) (p : ℕ) (row : List ℕ) : Type 0 where
  pub none : none_hold (asked_order s p row) ≡ true

-- what a row that passes tells: its pages fill it, and a start fits two words
pub record RowFits (p : ℕ) (row : List ℕ) : Type 0 where
  pub few : p ≤ 65535
  pub starts : (i : ℕ) → i ≤ p → row_start row i ≤ length row
  pub small : (i : ℕ) → i ≤ p → row_start row i ≤ 9253 * i
  pub all : row_start row p ≡ length row
  pub some : length row ≤ 9253 * p

-- the first i starts are written, and the next image stands at `at` in the row
pub record StartsTo (p : ℕ) (row old : List ℕ) (i at : ℕ) (new : List ℕ) : Type 0 where
  pub here : i ≤ p
  pub start : at ≡ row_start row i
  pub inside : at ≤ length row
  pub small : at ≤ 9253 * i
  pub long : length new ≡ length old
  pub words : new ≡ write_at old 17 (concat_below i (λ j. pair_words (start_of p (row_page row) j)))

pub record ContentsWritten (s : Setting) (p : ℕ) (row old new : List ℕ) : Type 0 where
  pub long : length new ≡ length old
  pub words : new ≡ write_at old 0 (contents_of s p (row_page row))
