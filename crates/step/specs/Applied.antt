-- What the applying half requires of the judging one, and what it promises. Assumes nothing.
use Rattle.std.specs.Prelude.{ℕ, ◌+◌, ◌<◌, ◌≤◌, false, List, ◌≡◌, ltb, length, replicate, Ok, Err}
use Rattle.lists.specs.Choice.{◌if◌else◌}
use Rattle.rules.specs.declared.Stepped.{Stepped}
use Rattle.rules.specs.Grid.{cell_of}
use Rattle.rules.specs.Image.{snakes_in, side_in, start_at, image_of}
use Rattle.rules.specs.Says.{Says, seen, lent}
use Rattle.rules.specs.Calls.{stepped_of}
use Rattle.rules.specs.Step.{cause_of, Transition}
use Rattle.judge.specs.declared.Judged.{Judged}
use Rattle.judge.specs.World.{moves_of, causes_of, judged_world}
use Rattle.rules.specs.declared.refusal.Refusal.TheVariants as Refusal

-- judged moves: each cause is that of the world it holds, each cell that of its head, each rest is a part of the image, no longer than a body
pub record Ready (w : List ℕ) (js : Judged) : Type 0 where
  pub causes : (i : ℕ) → i < snakes_in w → causes_of js i ≡ cause_of (side_in w) (snakes_in w) (judged_world w js) i
  pub cells : (i : ℕ) → i < snakes_in w → (moves_of js i).cell ≡ cell_of (side_in w) (moves_of js i).head
  pub parts : (i : ℕ) → i < snakes_in w → start_at w i + (moves_of js i).keep ≤ length w
  pub short : (i : ℕ) → i < snakes_in w → (moves_of js i).keep ≤ 1024

-- 29 is the last refusal of a step
abbrev pub room_for : Transition → ℕ → Says Transition
room_for o room = Err Refusal.Buffer if ltb room (length (image_of o.next)) else Ok o

pub record Applied (o : Transition) (old new : List ℕ) (r : Says Stepped) : Type 0 where
  pub answer : r ≡ seen stepped_of (room_for o (length old))
  pub words : new ≡ lent (λ o. image_of o.next) old (room_for o (length old))
