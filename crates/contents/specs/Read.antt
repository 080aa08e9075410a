-- What the functions that read a book's contents ensure. Assumes nothing.
use Rattle.std.specs.Prelude.{ℕ, ◌<◌, ◌≤◌, Bool, List, ◌≡◌, eqb, Ok}
use Rattle.lists.specs.Below.{all_below}
use Rattle.rules.specs.Tables.{none_hold}
use Rattle.rules.specs.Says.{Says, by_table}
use Rattle.rules.specs.Setting.{setting_check}
use Rattle.contents.specs.Settings.{limit_off, setting_in}
use Rattle.contents.specs.Contents.{start_in, end_in}
use Rattle.contents.specs.Orders.{layout_rows, rises, start_rows, contents_order}
pub use Rattle.book_words.specs.Read.{Word, Pair}

-- ---- tests

pub record OffLimit (b : List ℕ) (k : ℕ) (r : Bool) : Type 0 where
  pub off : r ≡ limit_off b k

pub record SettingFits (b : List ℕ) (r : Bool) : Type 0 where
  pub fits : r ≡ eqb (setting_check (setting_in b)) 0

pub record LayoutFits (b : List ℕ) (r : Bool) : Type 0 where
  pub fits : r ≡ none_hold (layout_rows b)

-- of the first n starts, the first i are below their next
pub record Rising (b : List ℕ) (n i : ℕ) (r : Bool) : Type 0 where
  pub here : i ≤ n
  pub rise : r ≡ all_below i (rises b)

-- c is the front of a book of n words
pub record StartsFit (c : List ℕ) (n : ℕ) (r : Bool) : Type 0 where
  pub fits : r ≡ none_hold (start_rows c n)

pub record ContentsFit (c : List ℕ) (n : ℕ) (r : Says (Unit {0})) : Type 0 where
  pub says : r ≡ by_table (contents_order c n) (Ok tt)

-- ---- where a page ends

pub record Ends (c : List ℕ) (n i r : ℕ) : Type 0 where
  pub value : r ≡ end_in c n i
  pub above : start_in c i < r
  pub inside : r ≤ n
