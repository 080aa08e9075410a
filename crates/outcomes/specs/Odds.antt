-- What a draw starts from. Assumes nothing.
use Rattle.std.specs.Prelude.{ℕ, ◌+◌, ◌<◌, List, ◌≡◌, length, get_or}
use Rattle.lists.specs.Products.{fitted}
use Rattle.rules.specs.Image.{area_in, state_of}
use Rattle.rules.specs.Chance.{free, draw_size, outcomes}
use Rattle.strips.specs.Marks.{unmarked, Counted}
use Rattle.outcomes.specs.declared.odds.Odds.{Odds}

-- the marks show the free cells of the image's state; how many there are, how many a draw takes, and the count
pub record Stands (w strips : List ℕ) (r : Odds) : Type 0 where
  pub size : length strips ≡ 16
  pub shows : unmarked strips (area_in w) ≡ free (state_of w)
  pub free_is : r.free ≡ length (free (state_of w))
  pub size_is : r.size ≡ draw_size (state_of w)
  pub count_is : r.count ≡ fitted (outcomes (state_of w))

-- each digit is below the number of cells that are free when its turn comes
pub record Pickable (digits : List ℕ) (area : ℕ) (strips tally : List ℕ) : Type 0 where
  pub counted : Counted area strips tally
  pub below : (j : ℕ) → j < length digits → get_or digits j 0 + j < length (unmarked strips area)
