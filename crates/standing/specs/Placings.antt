-- The placings at the end of a match: a snake's place, in the words of 01, 'Replay', and of 02, wish 3. Assumes nothing.
use Rattle.std.specs.Prelude.{ℕ, ◌+◌, Bool, false, ◌||◌, List, ltb, eqb, get_or}
use Rattle.lists.specs.Choice.{◌if◌else◌}
use Rattle.lists.specs.Below.{count_below, filled}

-- deaths holds for each snake the move on which it died, counted from 1, and 0 while it lives

-- 'alive or dying on a later move' than d
abbrev pub outlives : ℕ → ℕ → Bool
outlives d x = eqb x 0 || ltb d x

abbrev pub outlasts : List ℕ → ℕ → ℕ → Bool
outlasts deaths i j = outlives (get_or deaths i 0) (get_or deaths j 0)

-- 'the living 1; the dead 1 plus the snakes alive or dying on a later move'
unfoldable pub placing_of : ℕ → List ℕ → ℕ → ℕ
placing_of n deaths i = 1 if eqb (get_or deaths i 0) 0 else (1 + count_below n (outlasts deaths i))

-- 02: 'put a living snake that lost behind the one that won: 1 and 2'; behind holds for each snake whether it lost and lives
unfoldable pub end_placing : ℕ → List ℕ → List Bool → ℕ → ℕ
end_placing n deaths behind i = 2 if get_or behind i false else placing_of n deaths i

-- the placings of n snakes, in a table of eight
unfoldable pub placings_of : ℕ → List ℕ → List Bool → List ℕ
placings_of n deaths behind = filled (end_placing n deaths behind) n 8 0
