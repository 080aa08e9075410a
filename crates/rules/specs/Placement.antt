-- Where the snakes start (01, 'Modules' 2). Assumes nothing.
use Rattle.std.specs.Prelude.{ℕ, zero, suc, ◌-◌, ◌%◌, Bool, cond, List, [], ◌∷◌, eqb, ℤ, pos, ◌-ℤ◌, ◌*ℤ◌}
use Rattle.std.specs.Int.Signed.{quot_z}
use Rattle.lists.specs.Choice.{◌if◌else◌}
use Rattle.rules.specs.Grid.{ahead, inside}
use Rattle.rules.specs.declared.Heading.{Heading}
use Rattle.rules.specs.declared.Heading.TheVariants.{Up, Right, Down, Left}
use Rattle.rules.specs.declared.Place.{Place}

-- 'Two snakes: row g/2. More: row (i+1)·g/(n+1)'; 'Division drops the rest towards zero'
abbrev pub row_of : ℤ → ℕ → ℕ → ℤ
row_of g n i = quot_z g (pos 2) if eqb n 2 else quot_z (pos (suc i) *ℤ g) (pos (suc n))

abbrev pub even : ℕ → Bool
even i = eqb (i % 2) 0

-- 'Even i: column g/3, heading Right, traced Left, Down, Right, Up. Odd i: column g - g/3, heading Left, traced Right, Up, Left, Down'
abbrev pub col_of : ℤ → ℕ → ℤ
col_of g i = quot_z g (pos 3) if even i else (g -ℤ quot_z g (pos 3))

abbrev pub start_heading : ℕ → Heading
start_heading i = Right if even i else Left

abbrev pub start_place : ℤ → ℕ → ℕ → Place
start_place g n i = record { row = row_of g n i; col = col_of g i }

-- the directions, by whether the snake's number is even
abbrev pub tracing : Bool → List Heading
tracing e = Left ∷ Down ∷ Right ∷ Up ∷ [] if e else Right ∷ Up ∷ Left ∷ Down ∷ []

-- 'A blocked trace takes its next direction and never returns to one': the directions that are left at p
unfoldable pub unblocked : ℤ → List Heading → Place → List Heading
unblocked g [] p = []
unblocked g (d ∷ ds) p = let r = unblocked g ds p in cond (inside g (ahead d p)) (d ∷ ds) r

-- up to k more places from p on; the first of the directions is open at p
unfoldable pub trail : ℕ → ℤ → List Heading → Place → List Place
trail zero g ds p = []
trail (suc k) g [] p = []
trail (suc k) g (d ∷ ds) p = let q = ahead d p in q ∷ trail k g (unblocked g (d ∷ ds) q) q

-- `trace_body`: a body of k places from p on, or shorter where the directions are used up
abbrev pub traced : ℤ → List Heading → ℕ → Place → List Place
traced g ds k p = p ∷ trail (k - 1) g (unblocked g ds p) p

-- snake i of n, of length k
unfoldable pub placed : ℤ → ℕ → ℕ → ℕ → List Place
placed g n k i = traced g (tracing (even i)) k (start_place g n i)
