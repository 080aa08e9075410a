-- Refusals 9 to 12 on a grid of 3 and more, where all places are inside: by how long the bodies are and whether a cell stands twice. Assumes nothing.
use Prim.Native.Nat.{ℕ, zero, suc, ◌*◌, ◌-◌, ◌<◌, ◌≤◌}
use native.Mathlib.Nat.{le_antisymm, mul-pos}
use native.Mathlib.Omega.{arith}
use mathlib.Core.Path.{◌≡◌, refl, ap, ◌∙◌}
use mathlib.Core.Bool.{Bool, true, false, not}
use mathlib.Core.List.{List, [], ◌∷◌, map}
use lib.Dec.{ltb, eqb}
use lib.IntN.{pos}
use lib.ListN.{length, get_or}
use borrow.Author.Tests.{ltb-false}
use Rattle.lists.specs.Choice.{◌if◌else◌}
use Rattle.lists.specs.Below.{concat_below}
use Rattle.boards.specs.Boards.{Under}
use Rattle.lists.specs.Lists.{all, distinct}
use Rattle.lists.proofs.Tests.{and_left, and_right}
use Rattle.lists.proofs.Repeats.{map_concat, all_concat, sum_same}
use Rattle.lists.proofs.Below.{some_never, concat_long, sum_ext}
use Rattle.rules.specs.Grid.{inside, cell_of}
use Rattle.rules.specs.Placement.{start_place, tracing, even, placed}
use Rattle.rules.specs.Setting.{bad_cell, all_placed, some_short}
use Rattle.rules.specs.SettingParts.{place_says, cells_of}
use Rattle.rules.specs.declared.Place.{Place}
use Rattle.rules.proofs.Facts.{square_le}
use Rattle.rules.proofs.Grid.{cell_below}
use Rattle.rules.proofs.Placement.{traced_short, traced_inside, traced_reach}
use Rattle.rules.proofs.Starts.{start_inside}
use Rattle.rules.proofs.Taken.{bad_repeats}
use Rattle.std.specs.Prelude.{Ok, Err}
use Rattle.rules.specs.Says.{Says, by_table}
use Rattle.rules.specs.declared.refusal.Refusal.TheVariants as Refusal

-- the cells of places inside are below the area
cells_below : (g : ℕ) (ps : List Place) → 1 ≤ g → all (inside (pos g)) ps ≡ true → (j : ℕ) → get_or (map (cell_of g) ps) j 0 < g * g
unfolding all
cells_below g [] h k j = mul-pos h h
cells_below g (p ∷ ps) h k zero = cell_below g p (and_left (inside (pos g) p) (all (inside (pos g)) ps) k)
cells_below g (p ∷ ps) h k (suc j) = cells_below g ps h (and_right (inside (pos g) p) (all (inside (pos g)) ps) k) j

chosen : (t b : Bool) (v : ℕ) (r : Says (Unit {0})) → v ≡ (0 if b else 11)
    → (Err Refusal.Untraceable if t else Err Refusal.CellOutside if eqb v 10 else Err Refusal.CellTaken if eqb v 11 else r) ≡ (Err Refusal.Untraceable if t else Err Refusal.CellTaken if not b else r)
chosen true b v r e = refl
chosen false true v r e = rw e
chosen false false v r e = rw e

pub four_turns : (e : Bool) → length (tracing e) ≡ 4
four_turns true = refl
four_turns false = refl

module _ (g n k : ℕ) (side : 3 ≤ g) (small : g ≤ 32) (some : 1 ≤ k) where
  pub body_inside : (i : ℕ) → i < n → all (inside (pos g)) (placed (pos g) n k i) ≡ true
  unfolding placed
  body_inside i h = traced_inside (pos g) (tracing (even i)) k (start_place (pos g) n i) (start_inside g n i side h)

  pub all_inside : all (inside (pos g)) (all_placed (pos g) n k) ≡ true
  all_inside = all_concat (inside (pos g)) n (placed (pos g) n k) body_inside

  pub body_most : (i : ℕ) → length (placed (pos g) n k i) ≤ k
  unfolding placed
  body_most i = traced_short (pos g) (tracing (even i)) k (start_place (pos g) n i) some

  pub all_cells : map (cell_of g) (all_placed (pos g) n k) ≡ concat_below n (cells_of g n k)
  all_cells = map_concat (cell_of g) n (placed (pos g) n k)

  pub body_reach : (i : ℕ) → i < n → length (placed (pos g) n k i) ≤ 125
  unfolding placed
  body_reach i h = let r = traced_reach g small (tracing (even i)) k (start_place (pos g) n i) (start_inside g n i side h) in omega (arith, four_turns (even i))

  pub cells_under : Under 1024 (concat_below n (cells_of g n k))
  cells_under j = rw (← all_cells) (omega (arith, cells_below g (all_placed (pos g) n k) (omega arith) all_inside j, square_le g small))

  pub check_cells : (f : ℕ) → place_says (pos g) n k f
      ≡ (Err Refusal.Untraceable if some_short (pos g) n k else Err Refusal.CellTaken if not (distinct (concat_below n (cells_of g n k))) else
      Err Refusal.FoodFree if ltb (g * g - length (all_placed (pos g) n k)) f else Ok tt)
  unfolding place_says by_table
  check_cells f =
      chosen (some_short (pos g) n k) (distinct (concat_below n (cells_of g n k))) (bad_cell (pos g) [] (all_placed (pos g) n k)) _
      (bad_repeats g (all_placed (pos g) n k) all_inside ∙ ap (λ (l : List ℕ). 0 if distinct l else 11) all_cells)

  -- ---- where no body is short

  module _ (none : some_short (pos g) n k ≡ false) where
    pub body_long : (i : ℕ) → i < n → length (placed (pos g) n k i) ≡ k
    body_long i h = le_antisymm (body_most i) (ltb-false (length (placed (pos g) n k i)) k (some_never (λ i. ltb (length (placed (pos g) n k i)) k) n i h none))

    pub all_long : length (all_placed (pos g) n k) ≡ n * k
    all_long = concat_long n (placed (pos g) n k) ∙ sum_ext n (λ i. length (placed (pos g) n k i)) (λ i. k) body_long ∙ sum_same n k
