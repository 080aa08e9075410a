-- What finding a page says: by its table of refusals, or where the page lies. Assumes nothing.
use Rattle.std.specs.Prelude.{ℕ, ◌-◌, List, Ok, Err}
use Rattle.rules.specs.Says.{Says, by_table}
use Rattle.contents.specs.Contents.{start_in, end_in}
use Rattle.contents.specs.declared.Span.{Span}
use Rattle.contents.specs.Orders.{find_order}

abbrev pub span_in : List ℕ → ℕ → ℕ → Span
span_in c n i = record { start = start_in c i; len = end_in c n i - start_in c i }

-- by the contents alone
unfoldable pub find_says : List ℕ → ℕ → ℕ → Says Span
find_says c n i = by_table (find_order c n i) (Ok (span_in c n i))
