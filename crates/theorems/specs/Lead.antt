-- The end of a match by the lead, 01's last line, and what a replay comes to: what the theorems on 02's wish 3 speak of. Assumes nothing.
use Rattle.std.specs.Prelude.{ℕ, ◌+◌, ◌<◌, ◌≡◌, Bool, true, false, List, [], ◌∷◌, ◌++◌, ◌⊎◌, length, get_or, None, Ok}
use Rattle.lists.specs.Below.{some_below, count_below, filled}
use Rattle.rules.specs.State.{State, count, snake_of}
use Rattle.rules.specs.Image.{image_of}
use Rattle.rules.specs.Events.{blank}
use Rattle.rules.specs.Step.{Transition, leads}
use Rattle.rules.specs.declared.refusal.Refusal.{Refusal}
use Rattle.rules.specs.declared.Setting.{Setting}
use Rattle.printing.specs.Text.{refusal_text, placings_text}
use Rattle.standing.specs.Placings.{placing_of, end_placing}
use Rattle.standing.specs.Standing.{snakes_of, end_text}
use Rattle.standing.specs.declared.Match.{Match}
use Rattle.referee.specs.Match.{Turn, begin_says, turn_says}
use Rattle.rules.specs.Refusals.{code_of}

-- ---- the lead, in a state

-- 'two alive with lengths apart by the lead or more': i is the longer, j the other. A cause of death has no part in it
abbrev pub leads_in : Setting → State → ℕ → ℕ → Bool
leads_in s t i j = leads (count t) (λ _. None) (snake_of t) s.win_food_lead i j

-- another leads snake i
abbrev pub led_in : Setting → State → ℕ → Bool
led_in s t i = some_below (count t) (λ j. leads_in s t j i)

-- one leads another: the end of a match by the lead
abbrev pub by_lead : Setting → State → Bool
by_lead s t = some_below (count t) (λ i. some_below (count t) (leads_in s t i))

-- ---- a living snake that lost on a move o of n snakes: the lead ended the match, and the other of two living is longer and won

pub record LostToLead (s : Setting) (o : Transition) (n i : ℕ) : Type 0 where
  pub lead : by_lead s o.next ≡ true
  pub terminal : o.terminal ≡ true
  pub two : count_below n (λ j. (snake_of o.next j).alive) ≡ 2
  pub lives : (snake_of o.next i).alive ≡ true
  pub winner : ℕ
  pub below : winner < n
  pub survives : (snake_of o.next winner).alive ≡ true
  pub longer : length (snake_of o.next i).body < length (snake_of o.next winner).body
  pub won : (get_or o.events winner blank).won ≡ true

-- ---- the last line

-- 01's: every living snake has place 1
unfoldable pub end_before : Match → List ℕ
end_before m = placings_text (filled (placing_of (snakes_of m) m.deaths) (snakes_of m) 8 0) (snakes_of m)

-- `p` and two places below 10
abbrev pub two_places : ℕ → ℕ → List ℕ
two_places a b = 112 ∷ 32 ∷ (48 + a) ∷ 32 ∷ (48 + b) ∷ 10 ∷ []

-- ---- what a replay comes to

-- a turn that the lines of some input lead to
pub data Reached : Turn → Type 0 where
  begun : {t : Turn} (line : List ℕ) (room : ℕ) → begin_says line room ≡ Ok t → Reached t
  taken : {u : Turn} (t : Turn) (line : List ℕ) (room cells : ℕ) → Reached t → turn_says t.game (image_of t.next) line room cells ≡ Ok u → Reached u

-- how an output ends: by a refusal, or by the last line of the turn that the input leads to
pub data Ending (out : List ℕ) : Type 0 where
  refused : (shown : List ℕ) (k : Refusal) → out ≡ shown ++ refusal_text (code_of k) → Ending out
  placed : (shown : List ℕ) (t : Turn) → Reached t → out ≡ shown ++ end_text t.game → Ending out

-- the placings of a match: of snake i, and the line
abbrev pub place_of : Match → ℕ → ℕ
place_of m i = end_placing (snakes_of m) m.deaths m.behind i

pub record Placed (m : Match) (t : State) : Type 0 where
  -- the lead ended the match: the line is another, 'put a living snake that lost behind the one that won: 1 and 2', where both were 1
  pub over : by_lead m.setting t ≡ true → m.over ≡ true
  pub another : by_lead m.setting t ≡ true → end_text m ≡ end_before m → ⊥
  pub which : by_lead m.setting t ≡ true → (leads_in m.setting t 0 1 ≡ true) ⊎ (leads_in m.setting t 1 0 ≡ true)
  pub first : leads_in m.setting t 0 1 ≡ true → (end_text m ≡ two_places 1 2) × (end_before m ≡ two_places 1 1)
  pub second : leads_in m.setting t 1 0 ≡ true → (end_text m ≡ two_places 2 1) × (end_before m ≡ two_places 1 1)
  -- it did not: the line is as before, and 'keeps place 1 for all the living'
  pub others : by_lead m.setting t ≡ false → end_text m ≡ end_before m
  pub living : by_lead m.setting t ≡ false → (i : ℕ) → i < count t → (snake_of t i).alive ≡ true → place_of m i ≡ 1
  -- the dead stand where they stood
  pub dead : (i : ℕ) → i < count t → (snake_of t i).alive ≡ false → place_of m i ≡ placing_of (snakes_of m) m.deaths i
