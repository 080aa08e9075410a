-- What a snake hits of itself, by the image's words. Assumes nothing.
use Rattle.std.specs.Prelude.{ℕ, ◌≡◌, List, get_or, Option, Some, None}
use Rattle.lists.specs.Choice.{◌if◌else◌}
use Rattle.lists.specs.Lists.{member, place}
use Rattle.rules.specs.declared.Hit.{Hit}
use Rattle.judge.specs.declared.Move.{Move}
use Rattle.judge.specs.World.{still, world}
use Rattle.judge.specs.Judging.{hit_in}

-- the first place of a cell in the rest of snake i, if it stands there
abbrev pub own_at : List ℕ → List Move → ℕ → ℕ → Option Hit
own_at w all i cell = Some (hit_in i (place cell (world w all i).rest)) if member cell (world w all i).rest else None

pub record OwnHit (w : List ℕ) (all : List Move) (i : ℕ) (r : Option Hit) : Type 0 where
  pub is : r ≡ own_at w all i (get_or all i still).cell
