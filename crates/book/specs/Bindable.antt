-- A setting and pages that make a book: what no number but 29 refuses. Assumes nothing.
use Rattle.std.specs.Prelude.{ℕ, ◌<◌, ◌≤◌, ◌≡◌, true, false, List, length}
use Rattle.rules.specs.Image.{well_formed}
use Rattle.rules.specs.Orders.{differs}
use Rattle.rules.specs.Setting.{setting_check}
use Rattle.rules.specs.Tables.{none_hold}
use Rattle.rules.specs.declared.Setting.{Setting}
use Rattle.contents.specs.Settings.{setting_in}
use Rattle.contents.specs.Contents.{pages_in}
use Rattle.contents.specs.Orders.{contents_order}
use Rattle.book.specs.Book.{page_in}

-- f i is page i of p
pub record Bindable (s : Setting) (p : ℕ) (f : ℕ → List ℕ) : Type 0 where
  pub accepted : setting_check s ≡ 0
  pub few : p ≤ 65535
  pub formed : (i : ℕ) → i < p → well_formed (f i) ≡ true
  pub same : (i : ℕ) → i < p → differs s (f i) ≡ false

-- a book whose contents and pages are all accepted
pub record Whole (b : List ℕ) : Type 0 where
  pub contents : none_hold (contents_order b (length b)) ≡ true
  pub formed : (i : ℕ) → i < pages_in b → well_formed (page_in b i) ≡ true
  pub same : (i : ℕ) → i < pages_in b → differs (setting_in b) (page_in b i) ≡ false
