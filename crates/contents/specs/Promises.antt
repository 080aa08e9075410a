-- The promise of finding a page. Assumes nothing.
use Rattle.std.specs.Prelude.{ℕ, List, ◌≡◌}
use Rattle.rules.specs.Says.{Says}
use Rattle.contents.specs.Calls.{find_says}
use Rattle.contents.specs.declared.Span.{Span}

-- c is the front of a book of n words
pub record Finds (c : List ℕ) (n i : ℕ) (r : Says Span) : Type 0 where
  pub answer : r ≡ find_says c n i
