-- The promises of writing and reading: for every input which answer or number comes, and every word of the lent buffer afterwards.
-- old and new are a lent buffer before and after. Assumes nothing.
use Rattle.std.specs.Prelude.{ℕ, List, ◌≡◌, length}
use Rattle.std.specs.Borrow.{Bor}
use Rattle.rules.specs.Says.{Says, seen, lent}
use Rattle.rules.specs.declared.Setting.{Setting}
use Rattle.image.specs.Memory.{word_place}
use Rattle.contents.specs.declared.Span.{Span}
use Rattle.book.specs.Calls.{write_says, page_says, part_at, start_at}
use Rattle.contents.specs.declared.Span.{Span}
-- finding a page by the contents alone is promised there, and handed on: who calls the book cites it here
pub use Rattle.contents.specs.Promises.{Finds}

pub record Writes (s : Setting) (p : ℕ) (row old new : List ℕ) (r : Says ℕ) : Type 0 where
  pub answer : r ≡ seen (λ b. length b) (write_says s p row (length old))
  pub words : new ≡ lent (λ b. b) old (write_says s p row (length old))

pub record Pages (b : List ℕ) (i : ℕ) (r : Says Span) : Type 0 where
  pub answer : r ≡ page_says b i

-- the part that reading hands back: its words, and its place in the lent book
pub record Hands (book : Bor (List ℕ)) (i : ℕ) (r : Bor (List ℕ)) : Type 0 where
  pub words : r.now ≡ part_at book.now (page_says book.now i)
  pub place : r.ref_ptr ≡ word_place book (start_at (page_says book.now i))
