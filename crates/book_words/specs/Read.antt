-- What the functions that read a number's words ensure. Assumes nothing.
use Rattle.std.specs.Prelude.{ℕ, ◌<◌, List, ◌≡◌}
use Rattle.rules.specs.Image.{word}
use Rattle.book_words.specs.Settings.{pair_at}

-- ---- numbers, and how large they can be

pub record Word (b : List ℕ) (k r : ℕ) : Type 0 where
  pub value : r ≡ word b k
  pub small : r < 65536

pub record Pair (b : List ℕ) (k r : ℕ) : Type 0 where
  pub value : r ≡ pair_at b k
  pub small : r < 4294967296
