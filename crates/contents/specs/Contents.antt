-- A book's table of contents, from pages and back (02, wish 1). Assumes nothing.
use Rattle.std.specs.Prelude.{ℕ, ◌+◌, ◌*◌, List, [], ◌∷◌, ◌++◌, ltb, length}
use Rattle.lists.specs.Choice.{◌if◌else◌}
use Rattle.lists.specs.Below.{concat_below}
use Rattle.rules.specs.Image.{word}
use Rattle.rules.specs.declared.Setting.{Setting}
use Rattle.contents.specs.Settings.{pair_words, pair_at, setting_words}

-- the word 1, 15 words of the setting, the number of pages, and two words for each of p pages
abbrev pub front : ℕ → ℕ
front p = 17 + 2 * p

-- ---- from pages to contents: f i is page i of p

-- 'start word of each page in the book': past the contents and the pages before it
abbrev pub start_of : ℕ → (ℕ → List ℕ) → ℕ → ℕ
start_of p f i = front p + length (concat_below i f)

-- 'as two words, low one first'
unfoldable pub starts_of : ℕ → (ℕ → List ℕ) → List ℕ
starts_of p f = concat_below p (λ i. pair_words (start_of p f i))

-- 'a table of contents first (the word 1, the setting in the order of replay's first line, number of pages up to 65,535, start word of each page ..)'
unfoldable pub contents_of : Setting → ℕ → (ℕ → List ℕ) → List ℕ
contents_of s p f = (1 ∷ (setting_words s ++ (p ∷ []))) ++ starts_of p f

-- ---- from contents to pages: c is the front of a book of n words, and may be all of it

abbrev pub pages_in : List ℕ → ℕ
pages_in c = word c 16

abbrev pub start_in : List ℕ → ℕ → ℕ
start_in c i = pair_at c (17 + 2 * i)

-- 'up to the next start or the end'
abbrev pub end_in : List ℕ → ℕ → ℕ → ℕ
end_in c n i = start_in c (1 + i) if ltb (1 + i) (pages_in c) else n
