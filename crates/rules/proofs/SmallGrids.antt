-- Grids below 3 accept nothing: 9 where a trace is asked for more than its reach, else 10. Assumes nothing.
use Prim.Native.Nat.{ℕ, zero, suc, ◌+◌, ◌-◌, ◌<◌, ◌≤◌, zero-le}
use native.Mathlib.Omega.{arith}
use mathlib.Core.Path.{◌≡◌, refl, sym, ap, ◌∙◌}
use mathlib.Core.Bool.{true, false, and-false}
use mathlib.Core.List.{List, [], ◌∷◌, ◌++◌}
use lib.Dec.{leb, ltb}
use lib.IntN.{ℤ, pos, negsuc}
use lib.ListN.{length}
use lib.Signed.{lt_z}
use borrow.Author.Tests.{le-ltb, lt-ltb, ltb-true}
use Rattle.lists.specs.Choice.{◌if◌else◌}
use Rattle.lists.specs.Below.{some_below, concat_below}
use Rattle.lists.specs.Lists.{any}
use Rattle.lists.proofs.Below.{some_found, some_false, concat_split, concat_next, concat_none}
use Rattle.rules.specs.Grid.{within, inside, ahead}
use Rattle.rules.specs.Placement.{start_place, even, unblocked, trail, tracing, placed}
use Rattle.rules.specs.Setting.{bad_cell, all_placed, some_short}
use Rattle.rules.specs.SettingParts.{place_says}
use Rattle.rules.specs.declared.Place.{Place}
use Rattle.rules.specs.declared.Heading.{Heading}
use Rattle.rules.proofs.Placement.{none_left, shut_first, trail_shut}
use Rattle.std.specs.Prelude.{Err}
use Rattle.rules.specs.Says.{by_table}
use Rattle.rules.specs.declared.refusal.Refusal.TheVariants as Refusal

-- 9 by a body that is short
short_nine : (g : ℤ) (n k f i : ℕ) → i < n → length (placed g n k i) < k → place_says g n k f ≡ Err Refusal.Untraceable
unfolding place_says by_table
short_nine g n k f i h l = rw (some_found (λ i. ltb (length (placed g n k i)) k) n i h (lt-ltb (length (placed g n k i)) k l))

-- ---- a grid without a cell

module _ (g : ℤ) (n : ℕ) (none : (x : ℤ) → within g x ≡ false) where
  off : (p : Place) → inside g p ≡ false
  off p = rw (none p.row)

  all_shut : (ds : List Heading) (p : Place) → unblocked g ds p ≡ []
  all_shut [] p = none_left g p
  all_shut (d ∷ ds) p = shut_first g d ds p (off (ahead d p)) ∙ all_shut ds p

  alone : (k i : ℕ) → placed g n k i ≡ start_place g n i ∷ []
  unfolding placed
  alone k i = rw (all_shut (tracing (even i)) (start_place g n i), trail_shut g (k - 1) (start_place g n i))

  first_off : (ps : List Place) (i : ℕ) → bad_cell g [] ((start_place g n i ∷ []) ++ ps) ≡ 10
  unfolding bad_cell
  first_off ps i = rw (off (start_place g n i))

  head_off : 1 ≤ n → bad_cell g [] (all_placed g n 1) ≡ 10
  head_off h =
      let e : 0 + 1 + (n - 1) ≡ n = omega arith in
      ap (λ (m : ℕ). bad_cell g [] (concat_below m (placed g n 1))) (sym e)
      ∙ ap (bad_cell g []) (concat_split (placed g n 1) (0 + 1) (n - 1))
      ∙ ap (λ (l : List Place). bad_cell g [] (l ++ concat_below (n - 1) (λ j. placed g n 1 (0 + 1 + j)))) (concat_next (placed g n 1) 0 ∙ ap (λ (l : List Place). l ++ placed g n 1 0) (concat_none (placed g n 1)) ∙ alone 1 0)
      ∙ first_off (concat_below (n - 1) (λ j. placed g n 1 (0 + 1 + j))) 0

  none_short : some_short g n 1 ≡ false
  none_short = some_false (λ i. ltb (length (placed g n 1 i)) 1) n (λ i h. rw (alone 1 i))

  pub empty_ten : (f : ℕ) → 1 ≤ n → place_says g n 1 f ≡ Err Refusal.CellOutside
  unfolding place_says by_table
  empty_ten f h = rw (none_short, head_off h)

  pub empty_nine : (k f : ℕ) → 1 ≤ n → 1 < k → place_says g n k f ≡ Err Refusal.Untraceable
  empty_nine k f h l = short_nine g n k f 0 h (rw (alone k 0) l)

below_zero : (m : ℕ) (x : ℤ) → within (negsuc m) x ≡ false
below_zero m (pos a) = and-false (leb 0 a)
below_zero m (negsuc a) = refl

at_zero : (x : ℤ) → within (pos 0) x ≡ false
at_zero (pos a) = rw (le-ltb a 0 zero-le) (and-false (leb 0 a))
at_zero (negsuc a) = refl

-- ---- grids 1 and 2

few : (P : ℕ → Type 0) → P 2 → P 3 → P 4 → P 5 → P 6 → P 7 → P 8 → (n : ℕ) → 2 ≤ n → n ≤ 8 → P n
few P a b c d e f g zero h k = absurd (omega arith)
few P a b c d e f g (suc zero) h k = absurd (omega arith)
few P a b c d e f g (suc (suc zero)) h k = a
few P a b c d e f g (suc (suc (suc zero))) h k = b
few P a b c d e f g (suc (suc (suc (suc zero)))) h k = c
few P a b c d e f g (suc (suc (suc (suc (suc zero))))) h k = d
few P a b c d e f g (suc (suc (suc (suc (suc (suc zero)))))) h k = e
few P a b c d e f g (suc (suc (suc (suc (suc (suc (suc zero))))))) h k = f
few P a b c d e f g (suc (suc (suc (suc (suc (suc (suc (suc zero)))))))) h k = g
few P a b c d e f g (suc (suc (suc (suc (suc (suc (suc (suc (suc n))))))))) h k = absurd (omega arith)

one_ten : (f n : ℕ) → 2 ≤ n → n ≤ 8 → place_says (pos 1) n 1 f ≡ Err Refusal.CellOutside
unfolding place_says some_below concat_below placed trail unblocked bad_cell any by_table
one_ten f = few (λ n. place_says (pos 1) n 1 f ≡ Err Refusal.CellOutside) refl refl refl refl refl refl refl

-- a body of suc k places
abbrev body_to : ℤ → ℕ → ℕ → ℕ → List Place
body_to g n k i = start_place g n i ∷ trail k g (unblocked g (tracing (even i)) (start_place g n i)) (start_place g n i)

body_to_lem : (g : ℤ) (n k i : ℕ) → placed g n (suc k) i ≡ body_to g n k i
unfolding placed
body_to_lem g n k i = let e : suc k - 1 ≡ k = omega arith in rw e

one_short : (m n : ℕ) → 2 ≤ n → n ≤ 8 → length (body_to (pos 1) n (suc m) 0) ≡ 1
unfolding trail unblocked
one_short m = few (λ n. length (body_to (pos 1) n (suc m) 0) ≡ 1) refl refl refl refl refl refl refl

two_ten_1 : (f n : ℕ) → 2 ≤ n → n ≤ 8 → place_says (pos 2) n 1 f ≡ Err Refusal.CellOutside
unfolding place_says some_below concat_below placed trail unblocked bad_cell any by_table
two_ten_1 f = few (λ n. place_says (pos 2) n 1 f ≡ Err Refusal.CellOutside) refl refl refl refl refl refl refl

two_ten_2 : (f n : ℕ) → 2 ≤ n → n ≤ 8 → place_says (pos 2) n 2 f ≡ Err Refusal.CellOutside
unfolding place_says some_below concat_below placed trail unblocked bad_cell any by_table
two_ten_2 f = few (λ n. place_says (pos 2) n 2 f ≡ Err Refusal.CellOutside) refl refl refl refl refl refl refl

two_ten_3 : (f n : ℕ) → 2 ≤ n → n ≤ 8 → place_says (pos 2) n 3 f ≡ Err Refusal.CellOutside
unfolding place_says some_below concat_below placed trail unblocked bad_cell any by_table
two_ten_3 f = few (λ n. place_says (pos 2) n 3 f ≡ Err Refusal.CellOutside) refl refl refl refl refl refl refl

two_short : (m n : ℕ) → 2 ≤ n → n ≤ 8 → length (body_to (pos 2) n (suc (suc (suc m))) (n - 1)) ≡ 3
unfolding trail unblocked
two_short m = few (λ n. length (body_to (pos 2) n (suc (suc (suc m))) (n - 1)) ≡ 3) refl refl refl refl refl refl refl

module _ (n f : ℕ) (low : 2 ≤ n) (high : n ≤ 8) where
  one : (k : ℕ) → 1 ≤ k → place_says (pos 1) n k f ≡ (Err Refusal.Untraceable if ltb 1 k else Err Refusal.CellOutside)
  one zero h = absurd (omega arith)
  one (suc zero) h = one_ten f n low high
  one (suc (suc m)) h =
      rw (lt-ltb 1 (suc (suc m)) (omega arith))
      (short_nine (pos 1) n (suc (suc m)) f 0 (omega arith) (rw (body_to_lem (pos 1) n (suc m) 0, one_short m n low high) (omega arith)))

  two : (k : ℕ) → 1 ≤ k → place_says (pos 2) n k f ≡ (Err Refusal.Untraceable if ltb 3 k else Err Refusal.CellOutside)
  two zero h = absurd (omega arith)
  two (suc zero) h = two_ten_1 f n low high
  two (suc (suc zero)) h = two_ten_2 f n low high
  two (suc (suc (suc zero))) h = two_ten_3 f n low high
  two (suc (suc (suc (suc m)))) h =
      rw (lt-ltb 3 (suc (suc (suc (suc m)))) (omega arith))
      (short_nine (pos 2) n (suc (suc (suc (suc m)))) f (n - 1) (omega arith) (rw (body_to_lem (pos 2) n (suc (suc (suc m))) (n - 1), two_short m n low high) (omega arith)))

  empty : (g : ℤ) → ((x : ℤ) → within g x ≡ false) → (k : ℕ) → 1 ≤ k → place_says g n k f ≡ (Err Refusal.Untraceable if ltb 1 k else Err Refusal.CellOutside)
  empty g off zero h = absurd (omega arith)
  empty g off (suc zero) h = empty_ten g n off f (omega arith)
  empty g off (suc (suc m)) h = rw (lt-ltb 1 (suc (suc m)) (omega arith)) (empty_nine g n off (suc (suc m)) f (omega arith) (omega arith))

  -- a grid of 2 traces bodies of 3, and a smaller one bodies of 1
  pub small_two : (g : ℤ) (k : ℕ) → 1 ≤ k → g ≡ pos 2 → place_says g n k f ≡ (Err Refusal.Untraceable if ltb 3 k else Err Refusal.CellOutside)
  small_two g k h e = rw e (two k h)

  pub small_less : (g : ℤ) (k : ℕ) → 1 ≤ k → lt_z g (pos 2) ≡ true → place_says g n k f ≡ (Err Refusal.Untraceable if ltb 1 k else Err Refusal.CellOutside)
  small_less (pos zero) k h l = empty (pos 0) at_zero k h
  small_less (pos (suc zero)) k h l = one k h
  small_less (pos (suc (suc g))) k h l = absurd (not_below g (ltb-true (suc (suc g)) 2 l))
    where
      not_below : (g : ℕ) → suc (suc g) < 2 → ⊥
      not_below g q = omega arith
  small_less (negsuc g) k h l = empty (negsuc g) (below_zero g) k h
