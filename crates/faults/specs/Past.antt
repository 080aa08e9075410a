-- What is known of an image by the rows that do not hold: facts for the search for the first that does. Assumes nothing.
use Rattle.std.specs.Prelude.{ℕ, ◌≡◌, true, List, take}
use Rattle.rules.specs.Tables.{none_hold}
use Rattle.rules.specs.Image.{contents_fit}
use Rattle.rules.specs.Faults.{image_rows}
use Rattle.wellformed.specs.Checked.{Long, Ranged, Laid, OnBoard}

-- the first k rows do not hold
pub record Past (k : ℕ) (w : List ℕ) : Type 0 where
  pub none : none_hold (take k (image_rows w)) ≡ true

-- the contents are there, and the first five are in range
pub record Counted (w : List ℕ) : Type 0 where
  pub past : Past 1 w
  pub fits : contents_fit w ≡ true
  pub long : Long w

-- 50 and 51 do not hold
pub record InRange (w : List ℕ) : Type 0 where
  pub past : Past 2 w
  pub ranged : Ranged w

-- nor 52 and 53
pub record InPlace (w : List ℕ) : Type 0 where
  pub past : Past 4 w
  pub laid : Laid w

-- nor 54
pub record OnGrid (w : List ℕ) : Type 0 where
  pub past : Past 5 w
  pub board : OnBoard w
