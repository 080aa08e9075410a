-- An accepted setting has the facts of its tests; no grid below 3 is accepted. Assumes nothing.
use Rattle.std.specs.Prelude.{Option, Some, Ok, Err}
use Prim.Native.Nat.{ℕ, zero, suc, ◌+◌, ◌*◌, ◌-◌, ◌≤◌}
use native.Mathlib.Nat.{le_refl, le_trans, mul-le-mul}
use native.Mathlib.Omega.{arith}
use mathlib.Core.Path.{◌≡◌, refl, sym, ap, ◌∙◌}
use mathlib.Core.Bool.{Bool, true, false, not, ◌&&◌, true≢false}
use mathlib.Core.Logic.{inl, inr}
use mathlib.Core.List.{List, [], ◌∷◌, map}
use lib.Dec.{ltb, eqb}
use lib.IntN.{ℤ, pos}
use lib.ListN.{length, length-map}
use lib.Signed.{lt_z}
use borrow.Author.Tests.{ltb-false, lt-ltb, eqb-true, not-false}
use Rattle.lists.specs.Choice.{◌if◌else◌}
use Rattle.lists.specs.Below.{concat_below}
use Rattle.lists.specs.Lists.{all, distinct}
use Rattle.lists.proofs.Tests.{tell, and_left, and_right, both}
use Rattle.lists.proofs.Pigeonhole.{cells_short}
use Rattle.rules.specs.Grid.{inside, cell_of}
use Rattle.rules.specs.Placement.{placed}
use Rattle.rules.specs.Setting.{is_set, is_zero, side_of, setting_check, all_placed, some_short}
use Rattle.rules.specs.SettingParts.{Limited, place_says, cells_of}
use Rattle.rules.specs.SettingFacts.{Accepts}
use Rattle.rules.specs.declared.Place.{Place}
use Rattle.rules.specs.declared.Setting.{Setting}
use Rattle.rules.proofs.Grid.{cell_below}
use Rattle.rules.specs.Says.{Says}
use Rattle.rules.specs.Calls.{setting_says}
use Rattle.rules.specs.declared.refusal.Refusal.TheVariants as Refusal
use Rattle.rules.proofs.SettingParts.{accepted_says, limits_none, places_none, limited, lead_some, lead_two_or, worst_most}
use Rattle.rules.proofs.Starts.{grid_two, grid_side, side_three, side_small}
use Rattle.rules.proofs.SmallGrids.{small_two, small_less}
use Rattle.rules.proofs.PlaceCheck.{all_inside, all_cells, check_cells, body_long, all_long}

-- ---- no small grid

abbrev Apart : Type 0
Apart = ◌≡◌ {A = ℕ} 0 1

pub nine_or_ten : (b : Bool) → ◌≡◌ {A = Says (Unit {0})} (Err Refusal.Untraceable if b else Err Refusal.CellOutside) (Ok tt) → ⊥
nine_or_ten true e = let z : Apart = cc in omega arith
nine_or_ten false e = let z : Apart = cc in omega arith

wide : (g : ℤ) (n k f : ℕ) → 2 ≤ n → n ≤ 8 → 1 ≤ k → place_says g n k f ≡ Ok tt → lt_z g (pos 3) ≡ false
wide g n k f a b c e = elim (tell (lt_z g (pos 2))) [
  | inl t ↦ absurd (nine_or_ten (ltb 1 k) (sym (small_less n f a b g k c t) ∙ e))
  | inr h ↦ elim (tell (lt_z g (pos 3))) [
    | inl t ↦ absurd (nine_or_ten (ltb 3 k) (sym (small_two n f a b g k c (grid_two g h t)) ∙ e))
    | inr q ↦ q
  ]
]

-- ---- 9, 11 and 12

record Fine (a b c : Bool) : Type 0 where
  nine : a ≡ false
  eleven : b ≡ true
  twelve : c ≡ false

fine : (a b c : Bool) → ◌≡◌ {A = Says (Unit {0})} (Err Refusal.Untraceable if a else Err Refusal.CellTaken if not b else Err Refusal.FoodFree if c else Ok tt) (Ok tt) → Fine a b c
fine true b c e = let z : Apart = cc in absurd (omega arith)
fine false false c e = let z : Apart = cc in absurd (omega arith)
fine false true true e = let z : Apart = cc in absurd (omega arith)
fine false true false e = record { nine = refl; eleven = refl; twelve = refl }

-- cells of places inside
pub cells_all : (g : ℕ) (ps : List Place) → all (inside (pos g)) ps ≡ true → all (λ c. ltb c (g * g)) (map (cell_of g) ps) ≡ true
unfolding all
cells_all g [] k = refl
cells_all g (p ∷ ps) k =
    both (lt-ltb (cell_of g p) (g * g) (cell_below g p (and_left (inside (pos g) p) (all (inside (pos g)) ps) k)))
    (cells_all g ps (and_right (inside (pos g) p) (all (inside (pos g)) ps) k))

-- ---- the lead

some_lead : (l : Option ℕ) (k : ℕ) → is_zero l ≡ false → l ≡ Some k → 1 ≤ k
some_lead l zero h e = absurd (true≢false (sym (ap is_zero e) ∙ h))
some_lead l (suc k) h e = omega arith

two_lead : (l : Option ℕ) (k n : ℕ) → (is_set l && not (eqb n 2)) ≡ false → l ≡ Some k → n ≡ 2
two_lead l k n h e = eqb-true n 2 (not-false (eqb n 2) (sym (ap (λ (m : Option ℕ). is_set m && not (eqb n 2)) e) ∙ h))

module _ (g n k f : ℕ) (side : 3 ≤ g) (small : g ≤ 32) (some : 1 ≤ k) (e : place_says (pos g) n k f ≡ Ok tt) where
  held : Fine (some_short (pos g) n k) (distinct (concat_below n (cells_of g n k))) (ltb (g * g - length (all_placed (pos g) n k)) f)
  held = fine (some_short (pos g) n k) (distinct (concat_below n (cells_of g n k))) (ltb (g * g - length (all_placed (pos g) n k)) f) (sym (check_cells g n k side small some f) ∙ e)

  total_is : length (all_placed (pos g) n k) ≡ n * k
  total_is = all_long g n k side small some held.nine

  -- different cells are no more than the grid has
  total_most : n * k ≤ g * g
  total_most =
      let c = cells_all g (all_placed (pos g) n k) (all_inside g n k side small some) in
      let l = cells_short (g * g) (concat_below n (cells_of g n k)) held.eleven (rw (all_cells g n k side small some) at c) in
      let m = ap (λ (l : List ℕ). length l) (sym (all_cells g n k side small some)) ∙ length-map (all_placed (pos g) n k) (cell_of g) ∙ total_is in
      omega (arith, l, m)

  food_most : f + n * k ≤ g * g
  food_most = omega (arith, ltb-false (g * g - length (all_placed (pos g) n k)) f held.twelve, total_is, total_most)

module _ (s : Setting) (e : setting_check s ≡ 0) where
  says : setting_says s ≡ Ok tt
  says = accepted_says s e

  limits_hold : Limited s
  limits_hold = limited s (limits_none s says)

  three : lt_z s.grid_size (pos 3) ≡ false
  three = wide s.grid_size s.num_snakes s.initial_length s.initial_food_count limits_hold.snakes_min limits_hold.snakes_max limits_hold.size_min (places_none s says)

  is_side : s.grid_size ≡ pos (side_of s.grid_size)
  is_side = grid_side s.grid_size three

  low : 3 ≤ side_of s.grid_size
  low = side_three s.grid_size three

  high : side_of s.grid_size ≤ 32
  high = side_small s.grid_size limits_hold.grid_max

  checked : place_says (pos (side_of s.grid_size)) s.num_snakes s.initial_length s.initial_food_count ≡ Ok tt
  checked = ap (λ (g : ℤ). place_says g s.num_snakes s.initial_length s.initial_food_count) (sym is_side) ∙ places_none s says

  pub accepts : Accepts s
  accepts =
      let g = side_of s.grid_size in
      let n = s.num_snakes in
      let k = s.initial_length in
      let o = limits_hold.size_min in
      let h = held g n k s.initial_food_count low high o checked in
      let f : s.initial_food_count + n * k ≤ g * g = food_most g n k s.initial_food_count low high o checked in
      let m : 1 * k ≤ n * k = mul-le-mul (le_trans (omega arith) limits_hold.snakes_min) (le_refl k) in
      record {
        snakes_min = limits_hold.snakes_min;
        snakes_max = limits_hold.snakes_max;
        size_min = o;
        size_max = omega (arith, m, f);
        grid_is = is_side;
        side_min = low;
        side_max = high;
        lead_min = λ j q. some_lead s.win_food_lead j (lead_some s (limits_none s says)) q;
        lead_two = λ j q. two_lead s.win_food_lead j n (lead_two_or s (limits_none s says)) q;
        worst_max = worst_most s (limits_none s says);
        long = λ i l. ap (λ (z : ℤ). length (placed z n k i)) is_side ∙ body_long g n k low high o h.nine i l;
        within = ap (λ (z : ℤ). all (inside z) (all_placed z n k)) is_side ∙ all_inside g n k low high o;
        apart = h.eleven;
        total = ap (λ (z : ℤ). length (all_placed z n k)) is_side ∙ total_is g n k s.initial_food_count low high o checked;
        food_free = f;
      }
