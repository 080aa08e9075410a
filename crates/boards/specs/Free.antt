-- The squares that are free, row by row. Assumes nothing.
use Rattle.std.specs.Prelude.{ℕ, zero, suc, Bool, cond, List, [], ◌∷◌}

-- of the n squares from a on, those that are not used
unfoldable pub free_from : (ℕ → Bool) → ℕ → ℕ → List ℕ
free_from used a zero = []
free_from used a (suc n) = let r = free_from used (suc a) n in cond (used a) r (a ∷ r)
