-- What the writers of a body and of food write. Assumes nothing.
use Rattle.std.specs.Prelude.{ℕ, Bool, true, false, not, List, [], ◌∷◌, ◌≡◌, take, drop}
use Rattle.lists.specs.Choice.{◌if◌else◌}
use Rattle.lists.specs.Lists.{keep, member, distinct, ascending}

-- a new head, where it lives
abbrev pub new_head : ℕ → Bool → List ℕ
new_head head lives = head ∷ [] if lives else []

-- the part of `len` words from `start` on
abbrev pub part_of : List ℕ → ℕ → ℕ → List ℕ
part_of w start len = take len (drop start w)

-- a part of the image, behind a new head where it lives
abbrev pub body_with : List ℕ → ℕ → ℕ → ℕ → Bool → List ℕ
body_with w start len head lives = head ∷ part_of w start len if lives else part_of w start len

-- the apples that are left once some cells are eaten
unfoldable pub left : List ℕ → List ℕ → List ℕ
left eaten food = keep (λ a. not (member a eaten)) food

-- different cells, none of them in the ascending food
pub record Fresh (food cells : List ℕ) : Type 0 where
  pub rising : ascending 0 food ≡ true
  pub once : distinct cells ≡ true
  pub away : (c : ℕ) → member c cells ≡ true → member c food ≡ false
