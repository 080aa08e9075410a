-- Bodies below the span lie apart and inside, so that the numbers alone tell 12 or nothing. Assumes nothing.
use Prim.Native.Nat.{ℕ, suc, ◌+◌, ◌*◌, ◌-◌, ◌/◌, ◌<◌, ◌≤◌}
use native.Mathlib.Nat.{not-suc-le-zero, div-le_self, div-lt_iff_lt-mul, mul-le-mul}
use native.Mathlib.Omega.{arith}
use mathlib.Core.Path.{◌≡◌, refl, sym, ap, ◌∙◌}
use mathlib.Core.Bool.{Bool, true, false, not, ◌&&◌, ◌||◌}
use mathlib.Core.List.{List, ◌∷◌, map}
use lib.Dec.{ltb}
use lib.IntN.{ℤ, pos, negsuc}
use lib.ListN.{length, take}
use lib.Seq.{length-take-le}
use borrow.Author.Tests.{le-ltb, ltb-false, not-true}
use Rattle.lists.specs.Choice.{◌if◌else◌}
use Rattle.lists.specs.Below.{all_below, some_below, concat_below}
use Rattle.lists.specs.Lists.{member, distinct}
use Rattle.lists.proofs.Below.{all_at, some_never, some_false, concat_ext}
use Rattle.lists.proofs.Distinct.{distinct_cut}
use Rattle.lists.proofs.Shorter.{map_take}
use Rattle.lists.proofs.Tests.{and_left, and_right, or_second, ordered, less, more}
use Rattle.rules.specs.Grid.{cell_of}
use Rattle.rules.specs.Placement.{start_place, tracing, even, unblocked, trail, traced, placed}
use Rattle.rules.specs.Setting.{side_of, some_short}
use Rattle.rules.specs.SettingParts.{Limited, place_says, cells_of}
use Rattle.rules.specs.declared.refusal.Refusal.TheVariants as Refusal
use Rattle.std.specs.Prelude.{Ok, Err}
use Rattle.rules.specs.declared.Place.{Place}
use Rattle.rules.specs.declared.Setting.{Setting}
use Rattle.rules.proofs.Placement.{trail_take}
use Rattle.rules.proofs.Starts.{side_small}
use Rattle.rules.proofs.PlaceCheck.{check_cells, all_long}
use Rattle.placement.specs.Apart.{span_of}

-- ---- a shorter body is the first part of a longer one

placed_take : (g : ℤ) (n j k i : ℕ) → 1 ≤ j → j ≤ k → placed g n j i ≡ take j (placed g n k i)
unfolding placed
placed_take g n j k i o h =
    let p = start_place g n i in
    let e : suc (j - 1) ≡ j = omega arith in
    ap (λ (l : List Place). p ∷ l) (trail_take g (j - 1) (k - 1) (unblocked g (tracing (even i)) p) p (omega arith))
    ∙ ap (λ (m : ℕ). take m (traced g (tracing (even i)) k p)) e

-- ---- bodies that lie apart

lies : ℕ → ℕ → ℕ → Bool
lies g n k = not (some_short (pos g) n k) && distinct (concat_below n (cells_of g n k))

-- what holds of a length holds of a shorter one
module _ (g n k m : ℕ) (some : 1 ≤ k) (h : k ≤ m) (l : lies g n m ≡ true) where
  none_short : some_short (pos g) n k ≡ false
  unfolding lies
  none_short =
      let q = not-true (some_short (pos g) n m) (and_left (not (some_short (pos g) n m)) (distinct (concat_below n (cells_of g n m))) l) in
      some_false (λ i. ltb (length (placed (pos g) n k i)) k) n
      (λ i t.
      let r = ltb-false (length (placed (pos g) n m i)) m (some_never (λ i. ltb (length (placed (pos g) n m i)) m) n i t q) in
      let e = ap length (placed_take (pos g) n k m i some h) ∙ length-take-le k (placed (pos g) n m i) (omega arith) in
      le-ltb (length (placed (pos g) n k i)) k (omega arith))

  cells_cut : (i : ℕ) → cells_of g n k i ≡ take k (cells_of g n m i)
  cells_cut i = ap (map (cell_of g)) (placed_take (pos g) n k m i some h) ∙ map_take (cell_of g) k (placed (pos g) n m i)

  apart : distinct (concat_below n (cells_of g n k)) ≡ true
  unfolding lies
  apart =
      ap distinct (concat_ext n (cells_of g n k) (λ i. take k (cells_of g n m i)) (λ i _. cells_cut i))
      ∙ distinct_cut (cells_of g n m) k n (and_right (not (some_short (pos g) n m)) (distinct (concat_below n (cells_of g n m))) l)

-- ---- the longest, by computation; where the span is below 2 there is none

longest : ℕ → ℕ → Bool
longest g n = ltb (span_of g n) 2 || lies g n (span_of g n - 1)

each_lies : all_below 30 (λ g. all_below 7 (λ n. longest (g + 3) (n + 2))) ≡ true
unfolding all_below some_below concat_below member distinct unblocked trail placed lies longest
each_lies = refl

module _ (g n k : ℕ) (low : 3 ≤ g) (high : g ≤ 32) (two : 2 ≤ n) (eight : n ≤ 8) (some : 1 ≤ k) (h : k < span_of g n) where
  longest_lies : lies g n (span_of g n - 1) ≡ true
  unfolding longest
  longest_lies =
      let a : g - 3 + 3 ≡ g = omega arith in
      let b : n - 2 + 2 ≡ n = omega arith in
      let t = all_at (λ n. longest (g - 3 + 3) (n + 2)) 7 (n - 2) (omega arith) (all_at (λ g. all_below 7 (λ n. longest (g + 3) (n + 2))) 30 (g - 3) (omega arith) each_lies) in
      or_second (ltb (span_of g n) 2) (lies g n (span_of g n - 1)) (le-ltb (span_of g n) 2 (omega arith))
      (ap (λ (n : ℕ). longest g n) (sym b) ∙ ap (λ (g : ℕ). longest g (n - 2 + 2)) (sym a) ∙ t)

  short_check : (f : ℕ) → place_says (pos g) n k f ≡ (Err Refusal.FoodFree if ltb (g * g - n * k) f else Ok tt)
  short_check f =
      let m = span_of g n - 1 in
      let o = none_short g n k m some (omega arith) longest_lies in
      check_cells g n k low high some f ∙ rw (o, apart g n k m some (omega arith) longest_lies, all_long g n k low high some o)

-- ---- a setting whose bodies are below the span

span_side : (g n k : ℕ) → 2 ≤ n → 1 ≤ k → k < span_of g n → 3 ≤ g
span_side g n k two some h = elim (ordered g 3) [
  | less l e ↦
      let d : 2 * g / (n + 1) < 2 = (div-lt_iff_lt-mul {k = n + 1} {x = 2 * g} {y = 2} (omega arith)).1 (omega arith) in
      absurd (omega arith)
  | more l e ↦ l
]

grid_is : (g : ℤ) → 3 ≤ side_of g → g ≡ pos (side_of g)
grid_is (pos g) h = refl
grid_is (negsuc g) h = absurd (not-suc-le-zero h)

module _ (s : Setting) (l : Limited s) (g : ℕ) (e : g ≡ side_of s.grid_size) where
  pub apart_side : g ≤ 32
  apart_side = rw e (side_small s.grid_size l.grid_max)

  module _ (r : ℕ) (q : r ≡ span_of g s.num_snakes) where
    pub apart_total : s.initial_length ≤ r → s.num_snakes * s.initial_length ≤ 1024
    apart_total t =
        let k : s.initial_length ≤ 128 = omega (arith, apart_side, q, div-le_self (2 * g) (s.num_snakes + 1)) in
        mul-le-mul l.snakes_max k

    pub apart_check : s.initial_length < r → (Err Refusal.FoodFree if ltb (g * g - s.num_snakes * s.initial_length) s.initial_food_count else Ok tt) ≡ place_says s.grid_size s.num_snakes s.initial_length s.initial_food_count
    apart_check t =
        let below : s.initial_length < span_of g s.num_snakes = rw q at t in
        let low = span_side g s.num_snakes s.initial_length l.snakes_min l.size_min below in
        sym (short_check g s.num_snakes s.initial_length low apart_side l.snakes_min l.snakes_max l.size_min below s.initial_food_count)
        ∙ ap (λ (z : ℤ). place_says z s.num_snakes s.initial_length s.initial_food_count) (ap pos e ∙ sym (grid_is s.grid_size (rw e at low)))
