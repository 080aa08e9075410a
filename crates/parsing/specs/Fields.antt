-- Bytes cut into pieces at a byte b: a line's fields at its spaces, an input's lines at its newlines. Assumes nothing.
use Rattle.std.specs.Prelude.{ℕ, ◌-◌, ◌≤◌, ◌≡◌, cond, List, [], ◌∷◌, leb, eqb, length, get_or, take, drop}
use Rattle.lists.specs.Choice.{◌if◌else◌}
use Rattle.parsing.specs.declared.Span.{Span}

-- the bytes before the first b
unfoldable pub up_to : ℕ → List ℕ → List ℕ
up_to b [] = []
up_to b (x ∷ s) = let r = up_to b s in cond (eqb x b) [] (x ∷ r)

-- after each b, a piece
unfoldable pub past_each : ℕ → List ℕ → List (List ℕ)
past_each b [] = []
past_each b (x ∷ s) = let r = past_each b s in cond (eqb x b) (up_to b s ∷ r) r

abbrev pub pieces : ℕ → List ℕ → List (List ℕ)
pieces b s = up_to b s ∷ past_each b s

-- the pieces that start at index `at`; none where it is past the end
abbrev pub pieces_from : ℕ → List ℕ → ℕ → List (List ℕ)
pieces_from b s at = pieces b (drop at s) if leb at (length s) else []

-- 'Single spaces' (32): two side by side have an empty field between them, which no number is
abbrev pub fields_of : List ℕ → List (List ℕ)
fields_of s = pieces 32 s

-- the k-th field, and an empty one where there is none
abbrev pub field_at : List (List ℕ) → ℕ → List ℕ
field_at fs k = get_or fs k []

-- where the k-th field stands
pub record Spans (s : List ℕ) (k : ℕ) (r : Span) : Type 0 where
  pub ordered : r.from ≤ r.to
  pub inside : r.to ≤ length s
  pub says : take (r.to - r.from) (drop r.from s) ≡ field_at (fields_of s) k
