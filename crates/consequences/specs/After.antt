-- The code's records of the snakes after the step, as the definition's snakes; the tests as the code makes them. Assumes nothing.
use Rattle.std.specs.Prelude.{ℕ, ◌+◌, ◌*◌, ◌<◌, ◌≤◌, Bool, false, not, ◌&&◌, ◌||◌, List, ◌≡◌, eqb, ltb, length, get_or, Option, Some, None, is_some}
use Rattle.lists.specs.Choice.{◌if◌else◌, bit}
use Rattle.lists.specs.Below.{some_below, count_below, sum_below, lowest_from}
use Rattle.lists.specs.Lists.{member}
use Rattle.cells.specs.Writers.{part_of, body_with}
use Rattle.rules.specs.declared.Heading.TheVariants.{Up}
use Rattle.rules.specs.declared.Cause.{Cause}
use Rattle.rules.specs.declared.Event.{Event}
use Rattle.rules.specs.Events.{dies}
use Rattle.rules.specs.Image.{start_at}
use Rattle.rules.specs.State.{Snake}
use Rattle.rules.specs.Step.{killer_of}
use Rattle.judge.specs.declared.Move.{Move}
use Rattle.judge.specs.World.{still}
use Rattle.consequences.specs.declared.after.After.{After}
use Rattle.consequences.specs.declared.after.Tally.{Tally}

-- a move that led to this cause, settled
abbrev pub settled : Move → Option Cause → After
settled m c = record {
  heading = m.heading;
  lives = m.moves && not (dies c);
  cell = m.cell;
  keep = m.keep;
  ate = m.eats && not (dies c);
  cause = c;
}

abbrev pub settled_at : List Move → List (Option Cause) → ℕ → After
settled_at ms cs i = settled (get_or ms i still) (get_or cs i None)

-- a place of the array that no snake has
abbrev pub gone : After
gone = record { heading = Up; lives = false; cell = 0; keep = 0; ate = false; cause = None }

-- snake i: what it keeps of its body in the image, and the snake
abbrev pub part : List ℕ → ℕ → After → List ℕ
part w i a = part_of w (start_at w i) a.keep

abbrev pub later : List ℕ → ℕ → After → Snake
later w i a = record { heading = a.heading; alive = a.lives; body = body_with w (start_at w i) a.keep a.cell a.lives }

-- ---- what an array of them says, by number

abbrev pub snakes : List ℕ → List After → ℕ → Snake
snakes w all i = later w i (get_or all i gone)

abbrev pub cells : List After → ℕ → ℕ
cells all i = (get_or all i gone).cell

abbrev pub living : List After → ℕ → Bool
living all i = (get_or all i gone).lives

abbrev pub eating : List After → ℕ → Bool
eating all i = (get_or all i gone).ate

abbrev pub causes : List After → ℕ → Option Cause
causes all i = (get_or all i gone).cause

abbrev pub size_of : After → ℕ
size_of a = a.keep + bit a.lives

abbrev pub sizes : List After → ℕ → ℕ
sizes all i = size_of (get_or all i gone)

-- what snake i keeps is a part of the image
pub record PartIn (w : List ℕ) (i : ℕ) (a : After) : Type 0 where
  pub few : i < 8
  pub words : 5 + 4 * i < length w
  pub small : start_at w i < 65536
  pub fits : start_at w i + a.keep ≤ length w

-- and so of each of n
pub record InImage (w : List ℕ) (all : List After) (n : ℕ) : Type 0 where
  pub few : n ≤ 8
  pub parts : (i : ℕ) → i < n → PartIn w i (get_or all i gone)

-- and it is short
abbrev pub Short : List After → Type 0
Short all = (i : ℕ) → (get_or all i gone).keep ≤ 1024

pub record Counted (all : List After) (n : ℕ) (r : Tally) : Type 0 where
  pub alive : r.alive ≡ count_below n (living all)
  pub deaths : r.deaths ≡ count_below n (λ i. dies (causes all i))
  pub cells : r.cells ≡ sum_below n (sizes all)

-- the counts of the first i of n
pub record Counting (all : List After) (n i alive deaths cells : ℕ) : Type 0 where
  pub few : n ≤ 8
  pub along : i ≤ n
  pub lived : alive ≡ count_below i (living all)
  pub died : deaths ≡ count_below i (λ i. dies (causes all i))
  pub size : cells ≡ sum_below i (sizes all)
  pub lived_few : alive ≤ i
  pub died_few : deaths ≤ i
  pub size_small : cells ≤ 1025 * i

-- ---- tests

-- a survivor's body holds the cell
abbrev pub holds_at : List ℕ → ℕ → After → ℕ → Bool
holds_at w i a cell = (later w i a).alive && member cell (later w i a).body

abbrev pub holds_in : List ℕ → List After → ℕ → ℕ → Bool
holds_in w all cell j = holds_at w j (get_or all j gone) cell

-- one of n by its number; what is no number of them is nobody
abbrev pub one_of : ℕ → ℕ → Option ℕ
one_of n k = Some k if ltb k n else None

-- who is found is snake j
abbrev pub is_one : Option ℕ → ℕ → Bool
is_one None j = false
is_one (Some k) j = eqb k j

-- whom the death of a snake is credited to, of n
abbrev pub killer_in : List ℕ → List After → ℕ → ℕ → Option ℕ
killer_in w all n i = one_of n (killer_of n (cells all) (causes all) (snakes w all) i)

abbrev pub credited_to : List (Option ℕ) → ℕ → ℕ → Bool
credited_to to j i = is_one (get_or to i None) j

-- ---- what each function finds

pub record HasCell (w : List ℕ) (i : ℕ) (a : After) (cell : ℕ) (r : Bool) : Type 0 where
  pub is : r ≡ holds_at w i a cell

pub record Holder (w : List ℕ) (all : List After) (n cell : ℕ) (r : Option ℕ) : Type 0 where
  pub is : r ≡ one_of n (lowest_from (holds_in w all cell) 0 n)

pub record KilledBy (w : List ℕ) (all : List After) (n i : ℕ) (r : Option ℕ) : Type 0 where
  pub is : r ≡ killer_in w all n i

pub record Credited (to : List (Option ℕ)) (n j : ℕ) (r : Bool) : Type 0 where
  pub is : r ≡ some_below n (credited_to to j)

-- the event of snake i, of n, settled so: whom each death is credited to, the counts of the living and the dead, who leads
abbrev pub event_by : After → List (Option ℕ) → ℕ → ℕ → ℕ → Option ℕ → ℕ → Event
event_by a to n alive deaths leader i = record {
  ate_food = a.ate;
  died = dies a.cause;
  death_cause = a.cause;
  killed_opponent = some_below n (credited_to to i);
  won = a.lives && eqb alive 1 && ltb 0 deaths || is_one leader i;
  lost = dies a.cause && ltb 0 alive || (a.lives && not (is_one leader i) && is_some leader);
  drew = dies a.cause && eqb alive 0 && ltb 1 deaths;
  survived_to_max_ticks = false;
}

abbrev pub event_at : List After → List (Option ℕ) → ℕ → ℕ → ℕ → Option ℕ → ℕ → Event
event_at all to n alive deaths leader i = event_by (get_or all i gone) to n alive deaths leader i
