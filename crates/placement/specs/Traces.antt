-- What the functions that place snakes require and ensure. Assumes nothing.
use Rattle.std.specs.Prelude.{ℕ, ◌<◌, ◌≤◌, ◌≡◌, true, List, ℤ, pos, length, get_or, drop, Ok, Err}
use Rattle.lists.specs.Choice.{◌if◌else◌}
use Rattle.lists.specs.Below.{concat_below}
use Rattle.lists.specs.Lists.{write_at}
use Rattle.rules.specs.Grid.{ahead, inside}
use Rattle.rules.specs.Placement.{unblocked}
use Rattle.rules.specs.SettingParts.{cells_of}
use Rattle.rules.specs.Setting.{some_short}
use Rattle.rules.specs.Says.{Says}
use Rattle.rules.specs.declared.Heading.{Heading}
use Rattle.rules.specs.declared.Heading.TheVariants.{Up}
use Rattle.rules.specs.declared.Place.{Place}
use Rattle.rules.specs.declared.refusal.Refusal.TheVariants as Refusal

-- from p and turn t to the place q and turn u: the directions that are left, and the step in the first of them
pub record Walked (g : ℤ) (ds : List Heading) (p : Place) (t : ℕ) (q : Place) (u : ℕ) : Type 0 where
  pub most : u ≤ 4
  pub left : unblocked g (drop t ds) p ≡ drop u ds
  pub step : u < 4 → q ≡ ahead (get_or ds u Up) p
  pub within : u < 4 → inside g q ≡ true

-- a grid on which every start is inside, its snakes, and a buffer that holds any bodies of theirs
pub record Traceable (g n size : ℕ) (cells : List ℕ) : Type 0 where
  pub side_min : 3 ≤ g
  pub side_max : g ≤ 32
  pub snakes_min : 2 ≤ n
  pub snakes_max : n ≤ 8
  pub size_min : 1 ≤ size
  pub room : length cells ≡ 1024

-- 9 where some body is short of its length, and the cells of all bodies where none is
pub record Placed (g n size : ℕ) (old new : List ℕ) (r : Says (Unit {0})) : Type 0 where
  pub says : r ≡ (Err Refusal.Untraceable if some_short (pos g) n size else Ok tt)
  pub words : r ≡ Ok tt → new ≡ write_at old 0 (concat_below n (cells_of g n size))

-- a body written from `at` on; r is how long it is, not the index after it, which is what `Written` of lists gives
pub record Laid (old new : List ℕ) (at : ℕ) (body : List ℕ) (r : ℕ) : Type 0 where
  pub count : r ≡ length body
  pub words : new ≡ write_at old at body

-- a grid on which every start is inside, and one of its snakes
pub record Start (g n i : ℕ) : Type 0 where
  pub side_min : 3 ≤ g
  pub side_max : g ≤ 32
  pub snakes_min : 2 ≤ n
  pub snakes_max : n ≤ 8
  pub number : i < n
