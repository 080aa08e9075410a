-- Facts of the state after a draw, for its image to be well-formed again. Assumes nothing.
use mathlib.Core.Path.{◌≡◌, refl, ap}
use mathlib.Core.Logic.{⊎_elim}
use mathlib.Core.Bool.{Bool, true, false, not, ◌&&◌}
use mathlib.Core.List.{List, ◌++◌}
use Prim.Native.Nat.{ℕ, ◌+◌, ◌-◌, ◌≤◌, ◌<◌}
use native.Mathlib.Nat.{le_trans}
use native.Mathlib.Omega.{arith}
use lib.Dec.{eqb, ltb}
use lib.ListN.{length, length-append}
use borrow.Author.Tests.{lt-ltb}
use Rattle.lists.specs.Choice.{◌if◌else◌}
use Rattle.lists.specs.Below.{concat_below}
use Rattle.lists.specs.Lists.{all, member, ascending}
use Rattle.lists.proofs.Members.{all_members}
use Rattle.lists.proofs.Order.{ascending_short}
use Rattle.rules.specs.State.{State, count, area}
use Rattle.rules.specs.Image.{body_of, record_of, image_of, state_of}
use Rattle.rules.specs.Facts.{Sound}
use Rattle.rules.specs.Chance.{free, draw_size, outcomes, drawn, with_food, after_draw}
use Rattle.rules.proofs.FreeCells.{free_below, free_off_food}
use Rattle.rules.proofs.Sets.{listed_ascending, of_with, with_long}
use Rattle.rules.proofs.Fairness.{listed}
use Rattle.rules.proofs.Words.{image_of_lem}

module _ (t : State) (i : ℕ) where
  pub after_food : (after_draw t i).food ≡ with_food t.food (drawn t i)
  unfolding after_draw
  after_food = refl

  less_if : (b : Bool) (d : ℕ) → (d - 1 if b else 0) ≤ d
  less_if true d = omega arith
  less_if false d = omega arith

  -- what is due does not grow
  pub after_due : (after_draw t i).due ≤ t.due
  unfolding after_draw
  after_due = less_if (t.birth && not (eqb (length (free t)) 0)) t.due

module _ (t : State) (i : ℕ) (f : ascending 0 t.food ≡ true) (h : i < outcomes t) where
  pub after_rising : ascending 0 (after_draw t i).food ≡ true
  after_rising = rw (after_food t i) (listed_ascending t.food (free t) (draw_size t) f (free_off_food t) (drawn t i) (listed t i h))

  pub after_below : ((c : ℕ) → member c t.food ≡ true → c < area t) → (c : ℕ) → member c (after_draw t i).food ≡ true → c < area t
  after_below b c m = ⊎_elim (b c) (λ z. free_below t c ((listed t i h).among c z)) (of_with (drawn t i) t.food c (rw (after_food t i) at m))

  pub after_cells : ((c : ℕ) → member c t.food ≡ true → c < area t) → all (λ c. ltb c (area t)) (after_draw t i).food ≡ true
  after_cells b = all_members (λ c. ltb c (area t)) (after_draw t i).food (λ c m. lt-ltb c (area t) (after_below b c m))

  -- the food never outgrows the board
  pub after_short : ((c : ℕ) → member c t.food ≡ true → c < area t) → length (after_draw t i).food ≤ area t
  after_short b = let r = ascending_short 0 (area t) (after_draw t i).food after_rising (after_below b) in omega arith

-- what is due after a draw from an image fits its word
pub drawn_due : (w : List ℕ) → Sound w → (i : ℕ) → i < outcomes (state_of w) → (after_draw (state_of w) i).due ≤ 1024
unfolding state_of
drawn_due w s i h = le_trans (after_due (state_of w) i) s.due_max

-- ---- how long the image after a draw is

image_long : (t : State) → length (image_of t) ≡ 5 + length (concat_below (count t) (record_of t)) + length (concat_below (count t) (body_of t)) + length t.food
unfolding image_of
image_long t =
    let table = concat_below (count t) (record_of t) in
    let bodies = concat_below (count t) (body_of t) in
    omega (arith, length-append table (bodies ++ t.food), length-append bodies t.food)

-- the records and the bodies stay
draw_long : (t : State) (i : ℕ) → length (image_of (after_draw t i)) ≡ length (image_of t) + length (drawn t i)
unfolding after_draw
draw_long t i = omega (arith, image_long (after_draw t i), image_long t, with_long (drawn t i) t.food)

-- the image's words and k more
pub next_long : (w : List ℕ) → Sound w → (i : ℕ) → i < outcomes (state_of w) → length (image_of (after_draw (state_of w) i)) ≡ length w + draw_size (state_of w)
next_long w s i h = omega (arith, draw_long (state_of w) i, ap length (image_of_lem w s), (listed (state_of w) i h).long)
