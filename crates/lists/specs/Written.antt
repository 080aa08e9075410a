-- What a writer that gives the index after its words promises. Assumes nothing.
use Rattle.std.specs.Prelude.{ℕ, ◌+◌, List, ◌≡◌, length}
use Rattle.lists.specs.Lists.{write_at}

-- words are written from `at` on, and the index after them is given
pub record Written (old : List ℕ) (at : ℕ) (s new : List ℕ) (r : ℕ) : Type 0 where
  pub words : new ≡ write_at old at s
  pub end : r ≡ at + length s
