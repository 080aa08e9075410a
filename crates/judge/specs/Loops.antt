-- What a loop over the snakes has done so far: an array of eight filled, a test made of each. Assumes nothing.
use Rattle.std.specs.Prelude.{ℕ, ◌≤◌, ◌≡◌, Bool, List}
use Rattle.lists.specs.Below.{some_below, filled}

-- the first i of n places are what f gives, and blank those after them
pub record Filling {A : Type 0} (f : ℕ → A) (blank : A) (n i : ℕ) (all : List A) : Type 0 where
  pub few : n ≤ 8
  pub along : i ≤ n
  pub places : all ≡ filled f i 8 blank

-- whether one of the first i of n passed the test
pub record Seeking (p : ℕ → Bool) (n i : ℕ) (found : Bool) : Type 0 where
  pub along : i ≤ n
  pub so_far : found ≡ some_below i p
