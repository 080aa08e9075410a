-- What calls answer is well-formed again, so that calls chain. Assumes nothing.
use mathlib.Core.Path.{◌≡◌}
use mathlib.Core.Bool.{true}
use mathlib.Core.List.{List}
use Prim.Native.Nat.{ℕ, ◌<◌}
use native.Mathlib.Nat.{le_trans}
use lib.Dec.{ltb}
use borrow.Author.Tests.{ltb-true}
use Rattle.lists.specs.Lists.{member}
use Rattle.lists.proofs.Members.{all_member}
use Rattle.rules.specs.State.{State, area}
use Rattle.rules.specs.Image.{image_of, state_of, well_formed}
use Rattle.rules.specs.Facts.{Holdable}
use Rattle.rules.specs.Chance.{outcomes, after_draw}
use Rattle.rules.proofs.Facts.{sound}
use Rattle.rules.proofs.Holdable.{image_well_formed, holds_state}
use Rattle.rules.proofs.DrawFacts.{after_due, after_rising, after_cells, after_short}

-- ---- a draw

module _ (t : State) (i : ℕ) (ok : Holdable t) (h : i < outcomes t) where
  food_below : (c : ℕ) → member c t.food ≡ true → c < area t
  food_below c m = ltb-true c (area t) (all_member (λ c. ltb c (area t)) t.food c ok.food_cells m)

  pub drawn_holdable : Holdable (after_draw t i)
  unfolding after_draw
  drawn_holdable = record {
    snakes_min = ok.snakes_min;
    snakes_max = ok.snakes_max;
    side_min = ok.side_min;
    side_max = ok.side_max;
    due_max = le_trans (after_due t i) ok.due_max;
    food_max = after_short t i ok.rising h food_below;
    food_cells = after_cells t i ok.rising h food_below;
    rising = after_rising t i ok.rising h;
    lengths = ok.lengths;
    cells = ok.cells;
    apart = ok.apart;
    living = ok.living;
  }

pub draw_again : (w : List ℕ) (i : ℕ) → well_formed w ≡ true → i < outcomes (state_of w) → well_formed (image_of (after_draw (state_of w) i)) ≡ true
draw_again w i t h = image_well_formed (after_draw (state_of w) i) (drawn_holdable (state_of w) i (holds_state w (sound w t)) h)
