-- A table of refusals: a row is a refusal and whether it holds; the first row that holds decides. Assumes nothing.
use Rattle.std.specs.Prelude.{ℕ, ◌≡◌, Bool, true, not, List, [], ◌∷◌, ◌++◌}
use Rattle.lists.specs.Choice.{◌if◌else◌}
use Rattle.lists.specs.Lists.{all}
use Rattle.rules.specs.declared.refusal.Refusal.{Refusal}
use Rattle.rules.specs.Refusals.{code_of}

abbrev pub Table : Type 0
Table = List (Refusal × Bool)

-- the number of the first row that holds; 0 where none does
unfoldable pub fault : Table → ℕ
fault [] = 0
fault (e ∷ es) = let x = fault es in code_of e.0 if e.1 else x

-- no row holds
abbrev pub none_hold : Table → Bool
none_hold t = all (λ (e : Refusal × Bool). not e.1) t

-- k is the refusal of the first row that holds
pub record FirstRow (t : Table) (k : Refusal) : Type 0 where
  pub before : Table
  pub after : Table
  pub here : t ≡ before ++ ((k, true) ∷ after)
  pub none : none_hold before ≡ true
