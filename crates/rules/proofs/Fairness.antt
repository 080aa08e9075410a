-- The draw is fair (01, 'Chance'): for a state t whose food ascends, with n = length (free t) free cells, k = draw_size t draws and
-- P = outcomes t, the indices below P and the ordered lists of k different free cells match one to one by `drawn` and `rank_of`, and each
-- set of k free cells is added to the food by exactly k! of the indices. Below that, what a draw leaves as it was. Assumes nothing.
use mathlib.Core.Path.{◌≡◌, refl, ◌∙◌}
use mathlib.Core.Bool.{true, false, ◌&&◌}
use mathlib.Core.List.{List, [], ◌∷◌}
use Prim.Native.Nat.{ℕ, zero, suc, ◌+◌, ◌-◌, ◌%◌, ◌<◌, ◌≤◌, min}
use native.Mathlib.Nat.{mul-one, sub-zero, mod-eq_of_lt, lt_irrefl}
use native.Mathlib.Omega.{arith}
use lib.Dec.{eqb}
use lib.ListN.{length, get_or}
use borrow.Author.Tests.{eqb-true, eq-eqb, ne_eqb}
use Rattle.lists.specs.Below.{count_below}
use Rattle.lists.specs.Lists.{all, member, distinct, ascending}
use Rattle.lists.specs.Products.{falling, factorial}
use Rattle.lists.specs.Equal.{same_list}
use Rattle.lists.proofs.Tests.{and_left, and_right, both, ordered, less, more}
use Rattle.lists.proofs.Members.{all_member, all_members}
use Rattle.rules.specs.State.{State}
use Rattle.rules.specs.Fair.{Fair, Settled, Born}
use Rattle.rules.specs.Chance.{free, draw_size, outcomes, digits, pick, drawn_from, drawn, with_food, after_draw, rank_of, can_rank}
use Rattle.rules.proofs.FreeCells.{free_distinct, free_below, free_untaken, free_member, free_off_food}
use Rattle.rules.proofs.Draws.{Listed, listed_turn, drawn_listed, drawn_none, rank_drawn, rank_lt, drawn_rank}
use Rattle.rules.proofs.Sets.{food_count, with_none}

module _ (t : State) where
  -- a list that can be ranked is an ordered list of k different free cells
  pub ranked_listed : (l : List ℕ) → can_rank t l ≡ true → Listed (free t) (draw_size t) l
  unfolding can_rank
  ranked_listed l h =
      let n = eqb (length l) (draw_size t) in
      let a = all (λ c. member c (free t)) l in
      let r = and_left (n && a) (distinct l) h in
      record {
        long = eqb-true (length l) (draw_size t) (and_left n a r);
        among = λ c m. all_member (λ x. member x (free t)) l c (and_right n a r) m;
        once = and_right (n && a) (distinct l) h;
      }

  pub listed_ranked : (l : List ℕ) → Listed (free t) (draw_size t) l → can_rank t l ≡ true
  unfolding can_rank
  listed_ranked l r =
      both (both (eq-eqb (length l) (draw_size t) r.long) (all_members (λ x. member x (free t)) l r.among)) r.once

  pub listed : (i : ℕ) → i < outcomes t → Listed (free t) (draw_size t) (drawn t i)
  unfolding drawn outcomes
  listed i h = drawn_listed (free t) (draw_size t) i (free_distinct t) h

  rank_back : (i : ℕ) → i < outcomes t → rank_of t (drawn t i) ≡ i
  unfolding drawn outcomes rank_of
  rank_back i h = rank_drawn (draw_size t) (free t) i (free_distinct t) h

  rank_below : (l : List ℕ) → can_rank t l ≡ true → rank_of t l < outcomes t
  unfolding outcomes rank_of
  rank_below l h = let r = ranked_listed l h in rw r.long at (rank_lt l (free t) (listed_turn (free t) l (draw_size t) r))

  rank_forth : (l : List ℕ) → can_rank t l ≡ true → drawn t (rank_of t l) ≡ l
  unfolding drawn rank_of
  rank_forth l h = let r = ranked_listed l h in rw r.long at (drawn_rank l (free t) (listed_turn (free t) l (draw_size t) r))

  sets_count : ascending 0 t.food ≡ true → (s : List ℕ) → can_rank t s ≡ true
      → count_below (outcomes t) (λ i. same_list (after_draw t i).food (with_food t.food s)) ≡ factorial (draw_size t)
  unfolding outcomes after_draw drawn
  sets_count f s h = food_count t.food (free t) (draw_size t) f (free_off_food t) s (free_distinct t) (ranked_listed s h)

  count_is : outcomes t ≡ falling (length (free t)) (draw_size t)
  unfolding outcomes
  count_is = refl

  pub fair : ascending 0 t.food ≡ true → Fair t
  fair f = record {
    every_free = free_member t;
    on_board = free_below t;
    untaken = free_untaken t;
    free_once = free_distinct t;
    count = count_is;
    long = λ i h. (listed i h).long;
    among = λ i h. (listed i h).among;
    once = λ i h. (listed i h).once;
    rankable = λ i h. listed_ranked (drawn t i) (listed i h);
    back = rank_back;
    ranks = rank_below;
    forth = rank_forth;
    sets = sets_count f;
  }

-- ---- what a draw leaves as it was, and what it changes

-- a draw that is not at birth adds the cells drawn to the food, and leaves nothing due
pub settled : (t : State) (i : ℕ) → t.birth ≡ false → Settled t i
unfolding after_draw
settled t i b = record { side = refl; snakes = refl; birth = rw b; due = rw b; food = refl }

-- it draws all that is due, or as many cells as are free
pub later_size : (t : State) → t.birth ≡ false → draw_size t ≡ min t.due (length (free t))
later_size t b = rw b

-- ---- at birth: one apple a draw, and no draw without a free cell

pub birth_size : (t : State) → t.birth ≡ true → draw_size t ≡ min 1 (length (free t))
birth_size t b = rw b

module _ (t : State) (b : t.birth ≡ true) where
  one : 0 < length (free t) → draw_size t ≡ 1
  one h = birth_size t b ∙ omega arith

  -- the count is n, where a cell is free
  pub birth_count : 0 < length (free t) → outcomes t ≡ length (free t)
  unfolding outcomes falling
  birth_count h = rw (one h) (go (length (free t)))
    where
      go : (n : ℕ) → falling n 1 ≡ n
      go zero = refl
      go (suc n) = mul-one (suc n)

  -- and 1 where none is: at most one more than the free cells
  pub birth_few : outcomes t ≤ length (free t) + 1
  unfolding outcomes falling
  birth_few = elim (ordered 0 (length (free t))) [
    | less h e ↦ omega (arith, birth_count h)
    | more h e ↦ let z : draw_size t ≡ 0 = birth_size t b ∙ omega arith in rw z (omega arith)
  ]

  birth_cell : (i : ℕ) → i < length (free t) → drawn t i ≡ get_or (free t) i 0 ∷ []
  unfolding drawn drawn_from digits pick
  birth_cell i h =
      let n = length (free t) in
      let m : i % (n - 0) ≡ i = rw sub-zero (mod-eq_of_lt h) in
      rw (one (omega arith), m)

  pub born : (i : ℕ) → i < length (free t) → Born t i
  unfolding after_draw
  born i h =
      let n : eqb (length (free t)) 0 ≡ false = ne_eqb (length (free t)) 0 (λ e. lt_irrefl 0 (omega arith)) in
      record {
        side = refl;
        snakes = refl;
        birth = rw (n, b);
        due = rw (n, b);
        food = rw (birth_cell i h);
        cell = birth_cell i h;
        rank = rw (birth_cell i h) at (rank_back t i (rw (birth_count (omega arith)) h));
      }

  -- no cell is free: nothing is drawn, and nothing is due any more
  pub born_full : (i : ℕ) → length (free t) ≡ 0 → Settled t i × (drawn t i ≡ []) × ((after_draw t i).food ≡ t.food)
  unfolding after_draw drawn
  born_full i e =
      let n : eqb (length (free t)) 0 ≡ true = eq-eqb (length (free t)) 0 e in
      let z : draw_size t ≡ 0 = birth_size t b ∙ omega arith in
      let d : drawn_from (free t) (draw_size t) i ≡ [] = rw z (drawn_none (free t) i) in
      (record { side = refl; snakes = refl; birth = rw (n, b); due = rw (n, b); food = refl }, d, rw d (with_none t.food))
