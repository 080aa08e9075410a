-- Who was hit where (02, wish 7): 'which body cell was struck, counted from the head as 0'. Assumes nothing.
use Rattle.std.specs.Prelude.{ℕ, zero, suc, ◌<◌, ◌≤◌, ◌≡◌, Bool, true, false, not, ◌&&◌, List, ltb, eqb, length, get_or, Option, Some, None}
use Rattle.lists.specs.Choice.{◌if◌else◌}
use Rattle.lists.specs.Below.{each_below, lowest_from, filled}
use Rattle.lists.specs.Lists.{place}
use Rattle.rules.specs.Grid.{same, cell_of}
use Rattle.rules.specs.State.{State, nobody, count}
use Rattle.rules.specs.Step.{Moved, stays, moved_of, on_body, cause_of}
use Rattle.rules.specs.declared.Cause.{Cause}
use Rattle.rules.specs.declared.Cause.TheVariants.{Wall, SelfBody, OppBody, HeadOn}
use Rattle.rules.specs.declared.Hit.{Hit}
use Rattle.rules.specs.declared.Place.{Place}

-- nobody was hit
abbrev pub no_hit : Option Hit
no_hit = None

-- the position of a cell behind the head: 'For a self collision the head is left out and the position is at least 1'
abbrev pub behind_head : ℕ → Place → Moved → ℕ
behind_head g p z = suc (place (cell_of g p) z.rest)

-- 'the first such position', 'counted from the head as 0'
abbrev pub position_of : ℕ → Place → Moved → ℕ
position_of g p z = 0 if same p z.head else behind_head g p z

module _ (g n : ℕ) (m : ℕ → Moved) where
  -- snake j is another than i, alive before the step, and the head of i is on its moved body
  abbrev pub stops_head : ℕ → ℕ → Bool
  stops_head i j = not (eqb i j) && (m j).moves && on_body g n m (m i).head j

  -- of several the lowest-numbered is hit
  abbrev pub hit_by : ℕ → Option Cause → Option Hit
  hit_by i None = no_hit
  hit_by i (Some Wall) = no_hit
  hit_by i (Some SelfBody) = Some (record { snake = i; position = behind_head g (m i).head (m i) })
  hit_by i (Some OppBody) = let j = lowest_from (stops_head i) 0 n in Some (record { snake = j; position = position_of g (m i).head (m j) })
  hit_by i (Some HeadOn) = no_hit

  abbrev pub hit_of : ℕ → Option Hit
  hit_of i = hit_by i (cause_of g n m i)

-- eight places: whom each snake hit, and nobody from n on
unfoldable pub hits_in : State → List ℕ → List (Option Hit)
hits_in t acts =
    let n = count t in
    let ms = each_below n (moved_of t acts) in
    let m : ℕ → Moved = λ i. get_or ms i (stays nobody) in
    filled (hit_of t.side n m) n 8 no_hit

-- ---- what is proved of a hit

abbrev pub strikes : Option Cause → Bool
strikes None = false
strikes (Some Wall) = false
strikes (Some SelfBody) = true
strikes (Some OppBody) = true
strikes (Some HeadOn) = false

-- position k of the moved body is at place p
abbrev pub stands_at : ℕ → Place → Moved → ℕ → Bool
stands_at g p z zero = same p z.head
stands_at g p z (suc k) = ltb k (length z.rest) && eqb (cell_of g p) (get_or z.rest k 0)

-- k is the first position behind the head that is at p
pub record FirstBehind (g : ℕ) (p : Place) (z : Moved) (k : ℕ) : Type 0 where
  pub behind : 1 ≤ k
  pub first : (l : ℕ) → 1 ≤ l → l < k → stands_at g p z l ≡ false
  pub there : stands_at g p z k ≡ true

-- of n moved snakes m, snake i hit itself
pub record HitsItself (g : ℕ) (m : ℕ → Moved) (i : ℕ) (h : Option Hit) : Type 0 where
  pub hit : Hit
  pub told : h ≡ Some hit
  pub itself : hit.snake ≡ i
  pub at : FirstBehind g (m i).head (m i) hit.position

-- it hit another, alive before the step: not its head, and no lower-numbered one
pub record HitsAnother (g n : ℕ) (m : ℕ → Moved) (i : ℕ) (h : Option Hit) : Type 0 where
  pub hit : Hit
  pub told : h ≡ Some hit
  pub below : hit.snake < n
  pub other : hit.snake ≡ i → ⊥
  pub living : (m hit.snake).moves ≡ true
  pub apart : stands_at g (m i).head (m hit.snake) 0 ≡ false
  pub at : FirstBehind g (m i).head (m hit.snake) hit.position
  pub lowest : (j : ℕ) → j < hit.snake → stops_head g n m i j ≡ false
