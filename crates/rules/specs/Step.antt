-- One step (01, 'Step'): all living snakes move, all causes are judged on that one world, then the consequences.
-- A world is a function of the snake's number, so that 'another snake' is a test of numbers. Assumes nothing.
use Rattle.std.specs.Prelude.{ℕ, ◌-◌, Bool, true, false, not, ◌&&◌, ◌||◌, List, ◌∷◌, leb, ltb, eqb, length, get_or, take, pos, Option, Some, None}
use Rattle.lists.specs.Choice.{◌if◌else◌}
use Rattle.lists.specs.Below.{some_below, count_below, each_below, lowest_from}
use Rattle.lists.specs.Lists.{keep, member}
use Rattle.rules.specs.Headings.{turned, action_of}
use Rattle.rules.specs.Grid.{ahead, inside, same, cell_of, place_of}
use Rattle.rules.specs.State.{Snake, State, nobody, count, snake_of}
use Rattle.rules.specs.Events.{dies, by_body}
use Rattle.rules.specs.declared.Setting.{Setting}
use Rattle.rules.specs.declared.Heading.{Heading}
use Rattle.rules.specs.declared.Cause.{Cause}
use Rattle.rules.specs.declared.Cause.TheVariants.{Wall, SelfBody, OppBody, HeadOn}
use Rattle.rules.specs.declared.Event.{Event}
use Rattle.rules.specs.declared.Place.{Place}

-- ---- 'All living snakes move; tails stay only if the new head is on food'

-- a snake after the move: its head, perhaps off the grid, and the rest of its body
pub record Moved : Type 0 where
  pub moves : Bool
  pub heading : Heading
  pub head : Place
  pub rest : List ℕ
  pub eats : Bool

-- a corpse stays: its head is of no account, and the rest is its body
abbrev pub stays : Snake → Moved
stays z = record { moves = false; heading = z.heading; head = record { row = pos 0; col = pos 0 }; rest = z.body; eats = false }

abbrev pub on_food : ℕ → List ℕ → Place → Bool
on_food g food p = inside (pos g) p && member (cell_of g p) food

-- a living snake's head goes to p, heading h; e where p is on food
abbrev pub goes : List ℕ → Heading → Place → Bool → Moved
goes body h p e = record { moves = true; heading = h; head = p; rest = body if e else take (length body - 1) body; eats = e }

-- where a head at cell c goes, heading h, on a grid of side g: nothing else here asks for a neighbour
abbrev pub head_to : ℕ → Heading → ℕ → Place
head_to g h c = ahead h (place_of g c)

-- snake z acts a, on a grid of side g with this food
abbrev pub move : ℕ → List ℕ → Snake → ℕ → Moved
move g food z a =
    let h = turned z.heading (action_of a) in
    let p = head_to g h (get_or z.body 0 0) in
    goes z.body h p (on_food g food p) if z.alive else stays z

abbrev pub moved_of : State → List ℕ → ℕ → Moved
moved_of t acts i = move t.side t.food (snake_of t i) (get_or acts i 0)

-- ---- 'All causes are then judged on that one world': m of n snakes, on a grid of side g

module _ (g n : ℕ) (m : ℕ → Moved) where
  -- another snake alive before the step that passes the test
  abbrev pub another : ℕ → (ℕ → Bool) → Bool
  another i p = some_below n (λ j. not (eqb i j) && (m j).moves && p j)

  -- place p is on a cell of snake j, its head or the rest
  abbrev pub on_body : Place → ℕ → Bool
  on_body p j = same p (m j).head || member (cell_of g p) (m j).rest

  -- 'HeadOn (two moved heads equal, even off the grid), else Wall, else SelfBody, else OppBody
  -- (head on any cell of another snake alive before the step)'
  unfoldable pub cause_of : ℕ → Option Cause
  cause_of i =
      None if not (m i).moves else
      (Some HeadOn) if another i (λ j. same (m i).head (m j).head) else
      (Some Wall) if not (inside (pos g) (m i).head) else
      (Some SelfBody) if member (cell_of g (m i).head) (m i).rest else
      (Some OppBody) if another i (on_body (m i).head) else
      None

-- ---- consequences

-- 'The dying lose their head cell'
abbrev pub after : ℕ → Moved → Option Cause → Snake
after g m c =
    let l = m.moves && not (dies c) in
    record { heading = m.heading; alive = l; body = cell_of g m.head ∷ m.rest if l else m.rest }

-- 'Surviving eaters remove their food'
abbrev pub ate_now : Moved → Option Cause → Bool
ate_now m c = m.eats && not (dies c)

-- of n snakes: the cells x of their moved heads, their causes c, the snakes z afterwards
module _ (n : ℕ) (x : ℕ → ℕ) (c : ℕ → Option Cause) (z : ℕ → Snake) where
  -- 'An OppBody victim credits the lowest-numbered survivor whose body holds the fatal cell, if any'; n where there is none
  abbrev pub killer_of : ℕ → ℕ
  killer_of i = lowest_from (λ j. (z j).alive && member (x i) (z j).body) 0 n if by_body (c i) else n

  abbrev pub credited : ℕ → Bool
  credited j = some_below n (λ i. eqb (killer_of i) j)

-- of n snakes: their causes c, the snakes z afterwards
module _ (n : ℕ) (c : ℕ → Option Cause) (z : ℕ → Snake) where
  abbrev pub alive : ℕ
  alive = count_below n (λ i. (z i).alive)

  abbrev pub deaths : ℕ
  deaths = count_below n (λ i. dies (c i))

  -- 'two alive with lengths apart by the lead or more': i is the longer, j the other
  abbrev pub leads : Option ℕ → ℕ → ℕ → Bool
  leads None i j = false
  leads (Some k) i j = eqb alive 2 && ((z i).alive && (z j).alive && ltb (length (z j).body) (length (z i).body) && leb k (length (z i).body - length (z j).body))

  -- 'Terminal: at most one alive (none, with play_to_last), or' a lead
  abbrev pub is_terminal : Setting → Bool
  is_terminal s = leb alive (0 if s.play_to_last else 1) || some_below n (λ i. some_below n (leads s.win_food_lead i))

  -- 'One survivor and a death: it won'; 'then the longer won'
  abbrev pub won_by : Setting → ℕ → Bool
  won_by s i = (z i).alive && eqb alive 1 && ltb 0 deaths || some_below n (leads s.win_food_lead i)

  -- 'Each casualty lost if anyone lives'; 'the other lost'
  abbrev pub lost_by : Setting → ℕ → Bool
  lost_by s i = dies (c i) && ltb 0 alive || some_below n (λ j. leads s.win_food_lead j i)

  -- 'drew if none lives and two or more died'
  abbrev pub drew_by : ℕ → Bool
  drew_by i = dies (c i) && eqb alive 0 && ltb 1 deaths

-- the event of snake i; e says who ate
abbrev pub event_of : ℕ → (ℕ → ℕ) → (ℕ → Option Cause) → (ℕ → Snake) → (ℕ → Bool) → Setting → ℕ → Event
event_of n x c z e s i = record {
  ate_food = e i;
  died = dies (c i);
  death_cause = c i;
  killed_opponent = credited n x c z i;
  won = won_by n c z s i;
  lost = lost_by n c z s i;
  drew = drew_by n c z i;
  survived_to_max_ticks = false;
}

-- apple a is eaten
abbrev pub eaten_by : ℕ → (ℕ → ℕ) → (ℕ → Bool) → ℕ → Bool
eaten_by n x e a = some_below n (λ i. e i && eqb a (x i))

pub record Transition : Type 0 where
  pub next : State
  pub events : List Event
  pub terminal : Bool

-- setting s, side g, n snakes, the food, the moved world m. Each list is made once and asked by number.
-- 'Food due = apples eaten, 0 if terminal; birth = 0'
unfoldable pub transition_of : Setting → ℕ → ℕ → List ℕ → (ℕ → Moved) → Transition
transition_of s g n food m =
    let cs = each_below n (cause_of g n m) in
    let c : ℕ → Option Cause = λ i. get_or cs i None in
    let zs = each_below n (λ i. after g (m i) (c i)) in
    let z : ℕ → Snake = λ i. get_or zs i nobody in
    let xs = each_below n (λ i. cell_of g (m i).head) in
    let x : ℕ → ℕ = λ i. get_or xs i 0 in
    let es = each_below n (λ i. ate_now (m i) (c i)) in
    let e : ℕ → Bool = λ i. get_or es i false in
    record {
      next = record {
        side = g;
        due = 0 if is_terminal n c z s else count_below n e;
        birth = false;
        snakes = zs;
        food = keep (λ a. not (eaten_by n x e a)) food;
      };
      events = each_below n (event_of n x c z e s);
      terminal = is_terminal n c z s;
    }

-- state t, actions acts
unfoldable pub stepped : Setting → State → List ℕ → Transition
stepped s t acts =
    let n = count t in
    let ms = each_below n (moved_of t acts) in
    let m : ℕ → Moved = λ i. get_or ms i (stays nobody) in
    transition_of s t.side n t.food m
