-- What the functions that read a page ensure. Assumes nothing.
use Rattle.std.specs.Prelude.{ℕ, List, ◌≡◌, take, drop, Ok}
use Rattle.std.specs.Borrow.{Bor}
use Rattle.rules.specs.Says.{Says, by_table}
use Rattle.rules.specs.declared.Setting.{Setting}
use Rattle.image.specs.Memory.{word_place}
use Rattle.book.specs.Orders.{page_rows}

-- a page's fault, 21, or accepted
pub record PageChecks (s : Setting) (w : List ℕ) (r : Says (Unit {0})) : Type 0 where
  pub says : r ≡ by_table (page_rows s w) (Ok tt)

-- the part of a lent book from a start on: its words, and its place
pub record Cut (book : Bor (List ℕ)) (start size : ℕ) (r : Bor (List ℕ)) : Type 0 where
  pub words : r.now ≡ take size (drop start book.now)
  pub place : r.ref_ptr ≡ word_place book start
