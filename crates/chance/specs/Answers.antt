-- What a draw may go by once nothing refuses it, and what it answers. Assumes nothing.
use Rattle.std.specs.Prelude.{ℕ, ◌+◌, ◌<◌, ◌≤◌, List, ◌≡◌, length}
use Rattle.lists.specs.Lists.{over_front}
use Rattle.rules.specs.Image.{due_in, image_of, state_of}
use Rattle.rules.specs.Facts.{Sound}
use Rattle.rules.specs.Chance.{outcomes, drawn, after_draw}
use Rattle.rules.specs.Calls.{Draw, drawn_of}
use Rattle.rules.specs.declared.Drawn.{Drawn}
use Rattle.outcomes.specs.Odds.{Stands}
use Rattle.outcomes.specs.declared.odds.Odds.{Odds}

abbrev pub draw_of : List ℕ → ℕ → Draw
draw_of w i = record { next = after_draw (state_of w) i; cells = drawn (state_of w) i }

-- a checked image with food due, an index below the count, its free cells by their marks, and room in both buffers
pub record Ready (w : List ℕ) (i : ℕ) (o : Odds) (strips : List ℕ) (room list_room : ℕ) : Type 0 where
  pub sound : Sound w
  pub stands : Stands w strips o
  pub due : 0 < due_in w
  pub below : i < outcomes (state_of w)
  pub words : length w + o.size ≤ room
  pub cells : o.size ≤ list_room

-- every word of both buffers, by the draw
pub record Drew (d : Draw) (old new old_list new_list : List ℕ) (r : Drawn) : Type 0 where
  pub answer : r ≡ drawn_of d
  pub words : new ≡ over_front (image_of d.next) old
  pub list : new_list ≡ over_front d.cells old_list
