-- What the functions that write a setting's words, and a number's, ensure and require. Assumes nothing.
use Rattle.std.specs.Prelude.{ℕ, ◌<◌, ◌≡◌, List, [], ◌∷◌, ◌++◌, nat_abs, Option}
use Rattle.lists.specs.Lists.{write_at}
use Rattle.rules.specs.Setting.{side_of}
use Rattle.rules.specs.declared.Setting.{Setting}
use Rattle.grid.specs.Near.{Plain}
use Rattle.book_words.specs.Settings.{pair_words, limit_words, setting_words}

-- a limit's five words
pub record Five (l : Option ℕ) (r : List ℕ) : Type 0 where
  pub words : r ≡ limit_words l

-- a setting whose numbers a word each holds
pub record Wordy (s : Setting) : Type 0 where
  pub few : s.num_snakes < 65536
  pub plain : Plain s.grid_size
  pub side : nat_abs s.grid_size ≡ side_of s.grid_size
  pub long : s.initial_length < 65536
  pub fed : s.initial_food_count < 65536

-- the first 17 words of the contents
pub record Fronted (s : Setting) (p : ℕ) (old new : List ℕ) : Type 0 where
  pub words : new ≡ write_at old 0 (1 ∷ (setting_words s ++ (p ∷ [])))

-- a number in two words, low one first
pub record PairWritten (k n : ℕ) (old new : List ℕ) : Type 0 where
  pub words : new ≡ write_at old k (pair_words n)
