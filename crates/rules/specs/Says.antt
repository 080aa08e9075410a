-- What an answer says in document 01's terms: a refusal, or the values that come. Assumes nothing.
use Rattle.std.specs.Prelude.{ℕ, Bool, true, false, List, [], ◌∷◌, Float, Result, Ok, Err}
use Rattle.lists.specs.Choice.{◌if◌else◌}
use Rattle.lists.specs.Lists.{over_front}
use Rattle.rules.specs.Tables.{Table}
use Rattle.rules.specs.declared.refusal.Refusal.{Refusal}
use Rattle.rules.specs.declared.Actor.{Actor}
use Rattle.rules.specs.declared.Actor.TheVariants.{Chance, Simultaneous}
use Rattle.rules.specs.declared.Legal.{Legal}
use Rattle.rules.specs.declared.Legal.TheVariants.{AnyAction, NoAction}
use Rattle.rules.specs.declared.Space.{Space}
use Rattle.rules.specs.declared.Space.TheVariants.{Box, Discrete}

abbrev pub Says : Type 0 → Type 0
Says A = Result A Refusal

module _ {A : Type 0} where
  -- the first row that holds refuses; r where none does
  unfoldable pub by_table : Table → Says A → Says A
  by_table [] r = r
  by_table (e ∷ es) r = let x = by_table es r in Err e.0 if e.1 else x

module _ {A B : Type 0} where
  -- the same, seen through f
  abbrev pub seen : (A → B) → Says A → Says B
  seen f (Err k) = Err k
  seen f (Ok a) = Ok (f a)

  -- what stands beside the answer: b on a refusal
  abbrev pub beside : (A → B) → B → Says A → B
  beside f b (Err k) = b
  beside f b (Ok a) = f a

  -- a lent buffer afterwards: 'A refusal returns only its number and leaves all lent words untouched'; 'words after them keep their values'
  abbrev pub lent : (A → List B) → List B → Says A → List B
  lent f old (Err k) = old
  lent f old (Ok a) = over_front (f a) old

-- ---- what a value that comes says in document 01's terms

-- whether chance acts
abbrev pub chance_of : Actor → Bool
chance_of Chance = true
chance_of Simultaneous = false

abbrev pub actions_of : Legal → List ℕ
actions_of AnyAction = 0 ∷ 1 ∷ 2 ∷ []
actions_of NoAction = []

-- 'a box with three sizes and bounds 0.0 and 1.0, or (added, for actions) discrete 3'
pub data Shape : Type 0 where
  box : ℕ → ℕ → ℕ → Float → Float → Shape
  discrete : ℕ → Shape

abbrev pub shape_of : Space → Shape
shape_of (Box p rows cols low high) = box p rows cols low high
shape_of (Discrete n) = discrete n
