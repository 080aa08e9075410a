-- The marks show the free cells of an image's state, and the numbers that a draw starts from. Assumes nothing.
use Rattle.std.specs.Prelude.{Option, Some, None}
use mathlib.Core.Path.{◌≡◌, sym, ap, ap₂, ◌∙◌}
use mathlib.Core.Bool.{true, false}
use mathlib.Core.List.{List}
use Prim.Native.Nat.{ℕ, ◌+◌, ◌-◌, ◌*◌, ◌^◌, min}
use native.Mathlib.Omega.{arith}
use lib.Dec.{eqb, ltb}
use lib.ListN.{length, take, drop}
use Rattle.lists.specs.Choice.{◌if◌else◌}
use Rattle.boards.specs.Boards.{Under}
use Rattle.lists.specs.Products.{falling, fitted}
use Rattle.boards.proofs.Boards.{rest_under}
use Rattle.lists.proofs.Lists.{rest_is}
use Rattle.rules.proofs.Parts.{area_min}
use Rattle.lists.proofs.Fitted.{fitted_over, fitted_in, fitted_is}
use Rattle.rules.specs.Image.{front, snakes_in, due_in, birth_in, area_in, state_of}
use Rattle.rules.specs.Facts.{Sound}
use Rattle.rules.specs.Chance.{free, draw_size, outcomes}
use Rattle.rules.proofs.TakenWords.{free_words}
use Rattle.strips.specs.Marks.{unmarked, Blank, Adds, Inside}
use Rattle.strips.proofs.Strips.{shows_cells, inside}
use Rattle.outcomes.specs.Odds.{Stands}
use Rattle.outcomes.specs.declared.odds.Odds.{Odds}

-- ---- the words from k on, past the records

module _ (w : List ℕ) (s : Sound w) (k : ℕ) (e : k ≡ 5 + 4 * snakes_in w) where
  past : take (length w - k) (drop k w) ≡ drop (front (snakes_in w)) w
  past = rest_is w k ∙ ap (λ (j : ℕ). drop j w) e

  words_under : Under (area_in w) (take (length w - k) (drop k w))
  words_under j = rw past (rest_under w (area_in w) (front (snakes_in w)) (area_min w s) s.cells j)

  pub words_in : Under 1024 (take (length w - k) (drop k w))
  words_in j = omega (arith, words_under j, s.area_max)

  module _ (old strips : List ℕ) (b : Blank old) (a : Adds (take (length w - k) (drop k w)) old strips) where
    pub words_inside : Inside (area_in w) strips
    words_inside = inside (take (length w - k) (drop k w)) old strips b a (area_in w) words_under s.area_max

    shown : unmarked strips (area_in w) ≡ free (state_of w)
    shown = rw past at (shows_cells (take (length w - k) (drop k w)) old strips b a (area_in w)) ∙ free_words w s

    module _ (left size : ℕ) (count : Option ℕ)
        (f : left ≡ length (unmarked strips (area_in w)))
        (d : size ≡ min (1 if eqb (birth_in w) 1 else due_in w) left)
        (p : count ≡ fitted (falling left size)) where
      free_all : left ≡ length (free (state_of w))
      free_all = f ∙ ap length shown

      taken : size ≡ draw_size (state_of w)
      unfolding state_of
      taken = d ∙ ap (min (1 if eqb (birth_in w) 1 else due_in w)) free_all

      counted : count ≡ fitted (outcomes (state_of w))
      unfolding outcomes
      counted = p ∙ ap₂ (λ (n j : ℕ). fitted (falling n j)) free_all taken

      pub stands : Stands w strips (record { free = left; size = size; count = count })
      stands = record { size = a.size; shows = shown; free_is = free_all; size_is = taken; count_is = counted }

-- ---- a count that fits, and one that does not

module _ (w strips : List ℕ) (r : Odds) (o : Stands w strips r) where
  pub count_over : r.count ≡ None → ltb (2 ^ 64 - 1) (outcomes (state_of w)) ≡ true
  count_over e = fitted_over (outcomes (state_of w)) (sym o.count_is ∙ e)

  module _ (n : ℕ) (e : r.count ≡ Some n) where
    pub count_in : ltb (2 ^ 64 - 1) (outcomes (state_of w)) ≡ false
    count_in = fitted_in (outcomes (state_of w)) n (sym o.count_is ∙ e)

    pub count_eq : n ≡ outcomes (state_of w)
    count_eq = fitted_is (outcomes (state_of w)) n (sym o.count_is ∙ e)
