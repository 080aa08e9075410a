-- What ranking asks of a list, and how far a loop over it has come. Assumes nothing.
use Rattle.std.specs.Prelude.{ℕ, ◌+◌, ◌-◌, ◌*◌, ◌≤◌, ◌<◌, ◌^◌, Bool, true, not, ◌&&◌, List, [], ◌∷◌, ◌≡◌, length, drop, Ok, Err}
use Rattle.lists.specs.Choice.{◌if◌else◌}
use Rattle.lists.specs.Lists.{member, without}
use Rattle.lists.specs.Products.{falling}
use Rattle.rules.specs.Chance.{rank_in}
use Rattle.strips.specs.Marks.{unmarked, Open, Counted, Took}
use Rattle.rules.specs.Says.{Says}
use Rattle.rules.specs.declared.refusal.Refusal.TheVariants as Refusal

-- each cell of the list is there when its turn comes
unfoldable pub in_turn : List ℕ → List ℕ → Bool
in_turn cells [] = true
in_turn cells (c ∷ l) = member c cells && in_turn (without c cells) l

-- a list no longer than the free squares, whose ranks fit 64 bits
pub record Rankable (l : List ℕ) (area free : ℕ) (strips : List ℕ) : Type 0 where
  pub squares : Open area free strips
  pub few : length l ≤ free
  pub fits : falling free (length l) < 2 ^ 64

-- the place of a free cell among the free ones, and its mark made
pub record Placed (area c : ℕ) (old new tally : List ℕ) (r : ℕ) : Type 0 where
  pub place : r ≡ length (unmarked old c)
  pub took : Took area c old new tally

-- the rank of a list among those cells, or 30
pub record Ranked (cells l : List ℕ) (r : Says ℕ) : Type 0 where
  pub answer : r ≡ (Err Refusal.List if not (in_turn cells l) else Ok (rank_in cells l))

-- the rank so far, r, times what the cells left can do, and their own rank
abbrev pub rank_left : List ℕ → List ℕ → ℕ → ℕ → ℕ
rank_left cells l j r = r * falling (length cells) (length l - j) + rank_in cells (drop j l)

-- the first j cells are ranked and marked: r is their rank, and what is left to test and to add is what was at the start
pub record RankedTo (l : List ℕ) (area free : ℕ) (start strips tally : List ℕ) (r j : ℕ) : Type 0 where
  pub within : j ≤ length l
  pub counted : Counted area strips tally
  pub left : length (unmarked strips area) + j ≡ free
  pub turn : in_turn (unmarked strips area) (drop j l) ≡ in_turn (unmarked start area) l
  pub rest : rank_left (unmarked strips area) l j r ≡ rank_in (unmarked start area) l
  pub below : r < falling free j
