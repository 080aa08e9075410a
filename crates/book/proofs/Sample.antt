-- A small book, word by word: what the definitions say, by computation. Assumes nothing.
use Rattle.std.specs.Prelude.{Some, None}
use Prim.Native.Nat.{ℕ, zero, suc}
use mathlib.Core.Path.{◌≡◌, refl}
use mathlib.Core.Bool.{true, false}
use mathlib.Core.List.{List, [], ◌∷◌, ◌++◌}
use lib.IntN.{pos}
use Rattle.lists.specs.Below.{concat_below}
use Rattle.rules.specs.declared.Setting.{Setting}
use Rattle.contents.specs.Settings.{pair_words, limit_words, setting_words}
use Rattle.contents.specs.Contents.{starts_of, contents_of}
use Rattle.book.specs.Book.{book_of}

-- 'low one first': 65,538 is 2 and one time 65,536
pub low_first : pair_words 65538 ≡ 2 ∷ 1 ∷ []
low_first = refl

-- 'a flag and four words lowest first, all 0 when unset'
pub lowest_first : limit_words (Some 1970346312007682) ≡ 1 ∷ 2 ∷ 3 ∷ 5 ∷ 7 ∷ []
lowest_first = refl

pub all_zero : limit_words None ≡ 0 ∷ 0 ∷ 0 ∷ 0 ∷ 0 ∷ []
all_zero = refl

-- 'the setting in the order of replay's first line': snakes, grid, length, play_to_last, lead, food, max_ticks, each with a number of its own
pub in_order : setting_words (record { num_snakes = 2; grid_size = pos 9; initial_length = 3; play_to_last = false; win_food_lead = Some 5; initial_food_count = 4; max_ticks = Some 70000 })
    ≡ 2 ∷ 9 ∷ 3 ∷ 0 ∷ 1 ∷ 5 ∷ 0 ∷ 0 ∷ 0 ∷ 4 ∷ 1 ∷ 4464 ∷ 1 ∷ 0 ∷ 0 ∷ []
in_order = refl

-- two snakes on a grid of 3, max_ticks 70,000
abbrev sample : Setting
sample = record { num_snakes = 2; grid_size = pos 3; initial_length = 1; play_to_last = true; win_food_lead = None; initial_food_count = 1; max_ticks = Some 70000 }

-- the state after its first draw, and after the first move of 'm 0 0'
abbrev images : ℕ → List ℕ
images zero = 2 ∷ 3 ∷ 0 ∷ 0 ∷ 1 ∷ 13 ∷ 1 ∷ 1 ∷ 1 ∷ 14 ∷ 1 ∷ 3 ∷ 1 ∷ 4 ∷ 5 ∷ 2 ∷ []
images (suc i) = 2 ∷ 3 ∷ 0 ∷ 0 ∷ 1 ∷ 13 ∷ 1 ∷ 1 ∷ 1 ∷ 14 ∷ 1 ∷ 3 ∷ 1 ∷ 5 ∷ 4 ∷ 2 ∷ []

-- 'the word 1, the setting in the order of replay's first line, number of pages .., start word of each page in the book'; the contents have 21 words
pub sample_contents : contents_of sample 2 images ≡ (1 ∷ 2 ∷ 3 ∷ 1 ∷ 1 ∷ []) ++ ((0 ∷ 0 ∷ 0 ∷ 0 ∷ 0 ∷ []) ++ (1 ∷ 1 ∷ 4464 ∷ 1 ∷ 0 ∷ 0 ∷ 2 ∷ 21 ∷ 0 ∷ 37 ∷ 0 ∷ []))
unfolding contents_of starts_of concat_below
sample_contents = refl

pub sample_book : book_of sample 2 images ≡ contents_of sample 2 images ++ (images 0 ++ images 1)
unfolding book_of contents_of starts_of concat_below
sample_book = refl
