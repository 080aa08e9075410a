-- What it says that a draw is fair (01, demand 3): of the definitions, and of the words that a draw wrote. Assumes nothing.
use Rattle.std.specs.Prelude.{ℕ, suc, ◌+◌, ◌-◌, ◌^◌, ◌<◌, ◌≤◌, ◌≡◌, Bool, true, false, not, List, [], ◌∷◌, eqb, length, get_or, take, Ok}
use Rattle.lists.specs.Below.{count_below}
use Rattle.lists.specs.Lists.{member, distinct}
use Rattle.lists.specs.Products.{falling, factorial}
use Rattle.lists.specs.Equal.{same_list}
use Rattle.rules.specs.State.{State, area}
use Rattle.rules.specs.Image.{due_in, state_of, well_formed}
use Rattle.rules.specs.Chance.{taken, free, draw_size, outcomes, drawn, with_food, after_draw, rank_of, can_rank}
use Rattle.rules.specs.Promises.{Draws}
use Rattle.rules.specs.declared.Drawn.{Drawn}
use Rattle.rules.specs.Says.{Says}

pub record Fair (t : State) : Type 0 where
  -- a cell is free if and only if it is on the board and neither food nor any body holds it
  pub every_free : (c : ℕ) → c < area t → taken t c ≡ false → member c (free t) ≡ true
  pub on_board : (c : ℕ) → member c (free t) ≡ true → c < area t
  pub untaken : (c : ℕ) → member c (free t) ≡ true → taken t c ≡ false
  pub free_once : distinct (free t) ≡ true
  -- the count: k factors from n downward
  pub count : outcomes t ≡ falling (length (free t)) (draw_size t)
  -- each index below the count draws k different free cells
  pub long : (i : ℕ) → i < outcomes t → length (drawn t i) ≡ draw_size t
  pub among : (i : ℕ) → i < outcomes t → (c : ℕ) → member c (drawn t i) ≡ true → member c (free t) ≡ true
  pub once : (i : ℕ) → i < outcomes t → distinct (drawn t i) ≡ true
  -- its list can be ranked, and ranks as the index
  pub rankable : (i : ℕ) → i < outcomes t → can_rank t (drawn t i) ≡ true
  pub back : (i : ℕ) → i < outcomes t → rank_of t (drawn t i) ≡ i
  -- each list of k different free cells is drawn by one index, its rank
  pub ranks : (l : List ℕ) → can_rank t l ≡ true → rank_of t l < outcomes t
  pub forth : (l : List ℕ) → can_rank t l ≡ true → drawn t (rank_of t l) ≡ l
  -- each set of k free cells is the food that comes for exactly k! of these indices
  pub sets : (s : List ℕ) → can_rank t s ≡ true
      → count_below (outcomes t) (λ i. same_list (after_draw t i).food (with_food t.food s)) ≡ factorial (draw_size t)

-- what a draw that is not at birth leaves as it was, and what it changes
pub record Settled (t : State) (i : ℕ) : Type 0 where
  pub side : (after_draw t i).side ≡ t.side
  pub snakes : (after_draw t i).snakes ≡ t.snakes
  pub birth : (after_draw t i).birth ≡ false
  pub due : (after_draw t i).due ≡ 0
  pub food : (after_draw t i).food ≡ with_food t.food (drawn t i)

-- and one at birth
pub record Born (t : State) (i : ℕ) : Type 0 where
  pub side : (after_draw t i).side ≡ t.side
  pub snakes : (after_draw t i).snakes ≡ t.snakes
  pub birth : (after_draw t i).birth ≡ not (eqb t.due 1)
  pub due : (after_draw t i).due ≡ t.due - 1
  pub food : (after_draw t i).food ≡ with_food t.food (get_or (free t) i 0 ∷ [])
  pub cell : drawn t i ≡ get_or (free t) i 0 ∷ []
  pub rank : rank_of t (get_or (free t) i 0 ∷ []) ≡ i

-- ---- of the calls

-- a well-formed image with food due, and at most 2^64 - 1 outcomes
pub record Countable (w : List ℕ) : Type 0 where
  pub formed : well_formed w ≡ true
  pub due : 0 < due_in w
  pub fits : outcomes (state_of w) ≤ 2 ^ 64 - 1

-- of such an image an index below the count, with room for the image's words and k more, and for k cells
pub record Drawable (w : List ℕ) (i : ℕ) (old list : List ℕ) : Type 0 where
  pub countable : Countable w
  pub below : i < outcomes (state_of w)
  pub room : length w + draw_size (state_of w) ≤ length old
  pub list_room : draw_size (state_of w) ≤ length list

-- a draw that is answered: the image and the list are the words that it says it wrote
pub record DrawWrote (w : List ℕ) (i : ℕ) (image list : List ℕ) : Type 0 where
  pub old : List ℕ
  pub new : List ℕ
  pub lent_list : List ℕ
  pub cells : List ℕ
  pub answer : Says Drawn
  pub count : ℕ
  pub many : ℕ
  pub meets : Draws w i old new lent_list cells answer
  pub done : answer ≡ Ok (record { words = count; cells = many })
  pub image_is : image ≡ take count new
  pub list_is : list ≡ take many cells

-- l ranks as one index below P: what a draw of that index lists is l, and a draw that lists l is of that index
pub record RanksAsOne (w l : List ℕ) (r : Says ℕ) : Type 0 where
  pub index : ℕ
  pub answer : r ≡ Ok index
  pub below : index < outcomes (state_of w)
  pub lists : (image list : List ℕ) → DrawWrote w index image list → list ≡ l
  pub alone : (i : ℕ) (image : List ℕ) → DrawWrote w i image l → i ≡ index

-- nothing changes but the food, which is the old food and the cells drawn, and what is due and whether it is birth, which then are due and birth
pub record Changed (w image list : List ℕ) (due : ℕ) (birth : Bool) : Type 0 where
  pub side : (state_of image).side ≡ (state_of w).side
  pub snakes : (state_of image).snakes ≡ (state_of w).snakes
  pub food : (state_of image).food ≡ with_food (state_of w).food list
  pub due_is : (state_of image).due ≡ due
  pub birth_is : (state_of image).birth ≡ birth

-- draw j of a chain: image j + 1 is what it wrote
pub record Drawing (image : ℕ → List ℕ) (index : ℕ → ℕ) (j : ℕ) : Type 0 where
  pub list : List ℕ
  pub writes : DrawWrote (image j) (index j) (image (suc j)) list
