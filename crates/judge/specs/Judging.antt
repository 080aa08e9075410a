-- What the loops over the other snakes ask, of an array of moves. Assumes nothing.
use Rattle.std.specs.Prelude.{ℕ, suc, ◌+◌, ◌*◌, ◌<◌, ◌≤◌, ◌≡◌, Bool, true, false, not, ◌&&◌, List, eqb, ltb, pos, length, get_or, drop, Option, Some, None}
use Rattle.lists.specs.Choice.{◌if◌else◌}
use Rattle.lists.specs.Below.{some_below, lowest_from}
use Rattle.lists.specs.Lists.{member, place}
use Rattle.lists.specs.Search.{found_in}
use Rattle.rules.specs.declared.Cause.{Cause}
use Rattle.rules.specs.declared.Cause.TheVariants.{SelfBody, OppBody}
use Rattle.rules.specs.declared.Hit.{Hit}
use Rattle.rules.specs.declared.Place.{Place}
use Rattle.rules.specs.Grid.{inside, same, cell_of}
use Rattle.rules.specs.Image.{front, snakes_in, side_in, start_at}
use Rattle.rules.specs.Facts.{Sound}
use Rattle.judge.specs.declared.Move.{Move}
use Rattle.judge.specs.World.{still, shown, world}

-- each rest is a part of the image, and of its words after the records; the cell is that of the head, and a moved head is inside the grid where it says so
pub record Rests (w : List ℕ) (all : List Move) : Type 0 where
  pub fits : (j : ℕ) → j < snakes_in w → start_at w j + (get_or all j still).keep ≤ length w
  pub clear : (j x : ℕ) → member x (drop (front (snakes_in w)) w) ≡ false → member x (world w all j).rest ≡ false
  pub cells : (j : ℕ) → (get_or all j still).cell ≡ cell_of (side_in w) (get_or all j still).head
  pub inner : (j : ℕ) → (get_or all j still).moves ≡ true → (get_or all j still).inside ≡ inside (pos (side_in w)) (get_or all j still).head

-- the rest of snake j, moved so, is a part of the image
pub record RestIn (w : List ℕ) (j : ℕ) (m : Move) : Type 0 where
  pub few : j < 8
  pub words : 5 + 4 * j < length w
  pub small : start_at w j < 65536
  pub fits : start_at w j + m.keep ≤ length w

-- snake i of n is judged, all having moved so
pub record Judging (w : List ℕ) (all : List Move) (n i : ℕ) : Type 0 where
  pub sound : Sound w
  pub rests : Rests w all
  pub snakes : n ≡ snakes_in w
  pub one : i < n

-- snake j is another than i that moved to p
abbrev pub meets_at : List Move → ℕ → Place → ℕ → Bool
meets_at all i p j = not (eqb i j) && (get_or all j still).moves && same p (get_or all j still).head

-- snake j, hit at place k of the rest of its body
abbrev pub hit_in : ℕ → ℕ → Hit
hit_in j k = record { snake = j; position = suc k }

-- the numbers of a hit are small
pub record HitFits (j k : ℕ) : Type 0 where
  pub few : j < 8
  pub short : k < 65535

-- snake j, moved so, is another than i that has the cell in the rest of its body
abbrev pub stops_by : List ℕ → ℕ → ℕ → Move → ℕ → Bool
stops_by w i j m cell = not (eqb i j) && m.moves && member cell (shown w j m).rest

abbrev pub stops_at : List ℕ → List Move → ℕ → ℕ → ℕ → Bool
stops_at w all i cell j = stops_by w i j (get_or all j still) cell

-- where it has the cell
abbrev pub stop_found : List ℕ → ℕ → ℕ → Move → ℕ → Option ℕ
stop_found w i j m cell = found_in (shown w j m).rest cell if not (eqb i j) && m.moves else None

-- the lowest-numbered of them is hit
abbrev pub other_hit : List ℕ → List Move → ℕ → ℕ → ℕ → Option Hit
other_hit w all n i cell =
    let j = lowest_from (stops_at w all i cell) 0 n in
    Some (hit_in j (place cell (world w all j).rest)) if ltb j n else None

-- the cause of a head on the grid, at this cell, that meets no head
abbrev pub body_cause : List ℕ → List Move → ℕ → ℕ → ℕ → Option Cause
body_cause w all n i cell = (Some SelfBody) if member cell (world w all i).rest else (Some OppBody) if some_below n (stops_at w all i cell) else None

-- ---- what each function finds

pub record RestFound (w : List ℕ) (j : ℕ) (m : Move) (cell : ℕ) (r : Option ℕ) : Type 0 where
  pub is : r ≡ found_in (shown w j m).rest cell

pub record Stops (w : List ℕ) (i j : ℕ) (m : Move) (cell : ℕ) (r : Option ℕ) : Type 0 where
  pub is : r ≡ stop_found w i j m cell

pub record Stopped (w : List ℕ) (all : List Move) (n i cell : ℕ) (r : Option Hit) : Type 0 where
  pub is : r ≡ other_hit w all n i cell

pub record OnBody (w : List ℕ) (all : List Move) (n i cell : ℕ) (r : Option Cause) : Type 0 where
  pub is : r ≡ body_cause w all n i cell
