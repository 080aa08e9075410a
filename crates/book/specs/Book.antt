-- A match book: its table of contents, then the state images one after another (02, wish 1). Assumes nothing.
use Rattle.std.specs.Prelude.{ℕ, ◌-◌, List, ◌++◌, length, take, drop}
use Rattle.lists.specs.Below.{concat_below}
use Rattle.rules.specs.declared.Setting.{Setting}
use Rattle.contents.specs.Contents.{contents_of, start_in, end_in}

-- f i is page i of p: 'then the state images one after another, no word left over'
unfoldable pub book_of : Setting → ℕ → (ℕ → List ℕ) → List ℕ
book_of s p f = contents_of s p f ++ concat_below p f

-- page i of a book
unfoldable pub page_in : List ℕ → ℕ → List ℕ
page_in b i = take (end_in b (length b) i - start_in b i) (drop (start_in b i) b)
