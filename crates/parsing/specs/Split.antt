-- The input as lines, and a line that comes in parts (01, 'Replay'). Assumes nothing.
use Rattle.std.specs.Prelude.{ℕ, ◌≤◌, min, ◌≡◌, List, [], ◌∷◌, ◌++◌, length, take}
use Rattle.parsing.specs.Fields.{pieces}

-- 'last newline optional': an empty piece at the end is no line
unfoldable pub less_last : List ℕ → List (List ℕ) → List (List ℕ)
less_last [] [] = []
less_last (x ∷ s) [] = (x ∷ s) ∷ []
less_last s (t ∷ ts) = s ∷ less_last t ts

abbrev pub lines_from : List (List ℕ) → List (List ℕ)
lines_from [] = []
lines_from (s ∷ ts) = less_last s ts

-- the lines of an input, without their newlines (10); a blank line is a line
unfoldable pub lines_of : List ℕ → List (List ℕ)
lines_of s = lines_from (pieces 10 s)

-- the bytes s since the last newline: they stand at the front of a buffer of 200, or there are more of them
pub record Holds (buffer : List ℕ) (fill : ℕ) (s : List ℕ) : Type 0 where
  pub counted : fill ≡ min (length s) 201
  pub front : length s ≤ 200 → take (length s) buffer ≡ s

-- the part goes behind whatever bytes are held
pub record Feeds (old new : List ℕ) (fill r : ℕ) (part : List ℕ) : Type 0 where
  pub most : r ≤ 201
  pub long : length new ≡ length old
  pub holds : (s : List ℕ) → Holds old fill s → Holds new r (s ++ part)
