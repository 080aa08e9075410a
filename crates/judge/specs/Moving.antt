-- The move of a snake by the image's words. Assumes nothing.
use Rattle.std.specs.Prelude.{ℕ, ◌-◌, ◌<◌, ◌≤◌, ◌≡◌, Bool, true, false, ◌&&◌, List, eqb, pos, length, get_or}
use Rattle.lists.specs.Choice.{◌if◌else◌}
use Rattle.lists.specs.Lists.{member}
use Rattle.rules.specs.Headings.{heading_of, turned, action_of}
use Rattle.rules.specs.Grid.{inside, cell_of}
use Rattle.rules.specs.Image.{word, front, snakes_in, side_in, start_at, length_at, heading_at, alive_at, food_at}
use Rattle.rules.specs.Facts.{Sound}
use Rattle.rules.specs.Step.{on_food, head_to}
use Rattle.rules.specs.declared.Heading.{Heading}
use Rattle.rules.specs.declared.Place.{Place}
use Rattle.judge.specs.declared.Move.{Move}

-- in a checked image, a body of `len` words from `start` on, one at least, after the records
pub record LivingAt (w : List ℕ) (start len : ℕ) : Type 0 where
  pub sound : Sound w
  pub after : front (snakes_in w) ≤ start
  pub words : start < length w
  pub some : 0 < len

-- food at the cell of a head that is inside the grid
pub record OnFood (w : List ℕ) (inside : Bool) (cell : ℕ) (r : Bool) : Type 0 where
  pub is : r ≡ (inside && member cell (food_at w))

-- 'tails stay only if the new head is on food'
pub record Kept (len : ℕ) (eats : Bool) (r : ℕ) : Type 0 where
  pub is : r ≡ (len if eats else len - 1)

-- on a grid of side g a body of `len` words goes on to p, heading h; e where p is on food
abbrev pub goes_to : ℕ → ℕ → Heading → Place → Bool → Move
goes_to g len h p e = record { moves = true; heading = h; eats = e; inside = inside (pos g) p; head = p; cell = cell_of g p; keep = len if e else len - 1 }

-- the body starts at `start`
abbrev pub going : List ℕ → ℕ → ℕ → Heading → Move
going w start len h =
    let p = head_to (side_in w) h (word w start) in
    goes_to (side_in w) len h p (on_food (side_in w) (food_at w) p)

abbrev pub staying : ℕ → Heading → Move
staying len h = record { moves = false; heading = h; eats = false; inside = false; head = record { row = pos 0; col = pos 0 }; cell = 0; keep = len }

-- snake i acts a
unfoldable pub move_by : List ℕ → ℕ → ℕ → Move
move_by w i a =
    let h = heading_of (heading_at w i) in
    going w (start_at w i) (length_at w i) (turned h (action_of a)) if eqb (alive_at w i) 1 else staying (length_at w i) h

abbrev pub move_at : List ℕ → List ℕ → ℕ → Move
move_at w acts i = move_by w i (get_or acts i 0)
