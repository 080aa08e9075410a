-- What bounds a draw: the squares of the grid, the free cells, 64 bits. Assumes nothing.
use Rattle.std.specs.Prelude.{Some}
use mathlib.Core.Path.{◌≡◌, sym, ap, ◌∙◌}
use mathlib.Core.List.{List}
use Prim.Native.Nat.{ℕ, ◌-◌, ◌≤◌, ◌<◌, ◌^◌}
use native.Mathlib.Omega.{arith}
use borrow.Author.Tests.{ltb-false}
use Rattle.lists.specs.Products.{falling}
use Rattle.rules.specs.Image.{state_of}
use Rattle.rules.specs.Chance.{outcomes, digits, pick, drawn_from}
use Rattle.strips.proofs.Finding.{unmarked_few}
use Rattle.strips.specs.Marks.{unmarked, Open, Counted}
use Rattle.outcomes.specs.Odds.{Stands, Pickable}
use Rattle.outcomes.specs.declared.odds.Odds.{Odds}
use Rattle.outcomes.proofs.Marking.{count_in}
use Rattle.outcomes.proofs.Radix.{digit_below}
use Rattle.rules.proofs.Digits.{digits_length}

module _ (n left : ℕ) (strips : List ℕ) (o : Open n left strips) where
  pub left_most : left ≤ 1024
  left_most = omega (arith, o.left_is, o.area_max, unmarked_few strips n)

  -- the digits of an index are below what is free at their turns
  pub list_pickable : (ds tally : List ℕ) (k i : ℕ) → ds ≡ digits left k i → k ≤ left → Counted n strips tally → Pickable ds n strips tally
  list_pickable ds tally k i e h q = record {
    counted = q;
    below = λ j l. rw (sym o.left_is, e) (digit_below left k i j h (rw (e, digits_length left k i) at l));
  }

  -- and the cells that they pick
  pub list_drawn : (ds cells : List ℕ) (k i : ℕ) → ds ≡ digits left k i → cells ≡ pick (unmarked strips n) ds → cells ≡ drawn_from (unmarked strips n) k i
  unfolding drawn_from
  list_drawn ds cells k i e q = q ∙ ap (pick (unmarked strips n)) (e ∙ ap (λ (m : ℕ). digits m k i) o.left_is)

module _ (w strips : List ℕ) (r : Odds) (o : Stands w strips r) where
  pub size_le : r.size ≤ r.free
  size_le = let a = o.size_is in let b = o.free_is in omega arith

  pub count_fits : (n : ℕ) → r.count ≡ Some n → falling r.free r.size < 2 ^ 64
  unfolding outcomes
  count_fits n e = rw (o.free_is, o.size_is) (let l = ltb-false (2 ^ 64 - 1) (outcomes (state_of w)) (count_in w strips r o n e) in omega arith)
