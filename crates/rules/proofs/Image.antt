-- One state has one image: the state of a state's image is that state. Assumes nothing.
use Prim.Native.Nat.{ℕ, ◌+◌, ◌*◌, ◌<◌, ◌≤◌}
use native.Mathlib.Omega.{arith}
use mathlib.Core.Path.{◌≡◌, refl, sym, ap, ◌∙◌}
use mathlib.Core.Bool.{Bool, true, false}
use mathlib.Core.List.{List, ◌++◌}
use lib.Dec.{eqb}
use lib.ListN.{length, get_or, take, drop, length-append}
use lib.Seq.{get_or-drop, drop-drop, drop_at}
use Rattle.lists.specs.Choice.{bit}
use Rattle.lists.specs.Below.{concat_below, each_below}
use Rattle.lists.proofs.Below.{each_back, each_ext, sum_ext, concat_long}
use Rattle.lists.proofs.Concat.{behind, block_drop, block_take, blocks_long}
use Rattle.rules.specs.Headings.{number_of, heading_of}
use Rattle.rules.specs.State.{State, nobody, count, snake_of}
use Rattle.rules.specs.Image.{front, body_of, start_of, record_of, image_of, word, snakes_in, start_at, length_at, heading_at, alive_at, start_due, body_at, food_at, snake_at, state_of}
use Rattle.rules.specs.declared.Heading.{Heading}
use Rattle.rules.specs.declared.Heading.TheVariants.{Up, Right, Down, Left}

pub heading_back : (h : Heading) → heading_of (number_of h) ≡ h
heading_back Up = refl
heading_back Right = refl
heading_back Down = refl
heading_back Left = refl

pub bit_back : (b : Bool) → eqb (bit b) 1 ≡ b
bit_back true = refl
bit_back false = refl

module _ (s : State) where
  abbrev n : ℕ
  n = count s

  abbrev table : List ℕ
  table = concat_below n (record_of s)

  abbrev bodies : List ℕ
  bodies = concat_below n (body_of s)

  -- past the contents; past the records; past the bodies
  past_five : drop 5 (image_of s) ≡ table ++ (bodies ++ s.food)
  unfolding image_of
  past_five = refl

  records_long : (i : ℕ) → length (concat_below i (record_of s)) ≡ 4 * i
  records_long i = blocks_long (record_of s) 4 i (λ j. refl)

  pub past_front : drop (front n) (image_of s) ≡ bodies ++ s.food
  past_front = sym (drop-drop (4 * n) 5 (image_of s)) ∙ ap (drop (4 * n)) past_five ∙ drop_at table (bodies ++ s.food) (4 * n) (records_long n)

  module _ (i : ℕ) (h : i < n) where
    -- word k of the four of snake i
    record_word : (k : ℕ) → get_or (image_of s) (5 + 4 * i + k) 0 ≡ get_or (record_of s i ++ behind (record_of s) i n h (bodies ++ s.food)) k 0
    record_word k =
        sym (get_or-drop (5 + 4 * i) (image_of s) k 0)
        ∙ ap (λ (l : List ℕ). get_or l k 0)
        (sym (drop-drop (4 * i) 5 (image_of s))
        ∙ ap (drop (4 * i)) past_five
        ∙ ap (λ (k : ℕ). drop k (table ++ (bodies ++ s.food))) (sym (records_long i))
        ∙ block_drop (record_of s) i n h (bodies ++ s.food))

    at : (k m : ℕ) → m ≡ 5 + 4 * i + k → word (image_of s) m ≡ get_or (record_of s i ++ behind (record_of s) i n h (bodies ++ s.food)) k 0
    at k m e = ap (word (image_of s)) e ∙ record_word k

    pub start_is : start_at (image_of s) i ≡ start_of s i
    start_is = at 0 (5 + 4 * i) (omega arith)

    pub length_is : length_at (image_of s) i ≡ length (body_of s i)
    length_is = at 1 (6 + 4 * i) (omega arith)

    pub heading_is : heading_at (image_of s) i ≡ number_of (snake_of s i).heading
    heading_is = at 2 (7 + 4 * i) (omega arith)

    pub alive_is : alive_at (image_of s) i ≡ bit (snake_of s i).alive
    alive_is = at 3 (8 + 4 * i) (omega arith)

    pub body_is : body_at (image_of s) i ≡ body_of s i
    body_is =
        let b = concat_below i (body_of s) in
        rw (start_is, length_is)
        (ap (take (length (body_of s i))) (sym (drop-drop (length b) (front n) (image_of s)) ∙ ap (drop (length b)) past_front)
        ∙ block_take (body_of s) i n h s.food)

    pub snake_is : snake_at (image_of s) i ≡ snake_of s i
    snake_is = λ j. record {
      heading = (ap heading_of heading_is ∙ heading_back (snake_of s i).heading) j;
      alive = (ap (λ (k : ℕ). eqb k 1) alive_is ∙ bit_back (snake_of s i).alive) j;
      body = body_is j;
    }

  pub snakes_is : snakes_in (image_of s) ≡ n
  unfolding image_of
  snakes_is = refl

  -- where the body of snake i starts, and where the food does
  pub start_due_lem : (i : ℕ) → i ≤ n → start_due (image_of s) i ≡ start_of s i
  start_due_lem i h =
      let e = sum_ext i (length_at (image_of s)) (λ j. length (body_of s j)) (λ j l. length_is j (omega arith)) in
      let b = concat_long i (body_of s) in
      rw snakes_is (omega arith)

  pub food_is : food_at (image_of s) ≡ s.food
  food_is =
      ap (λ (k : ℕ). drop (start_due (image_of s) k) (image_of s)) snakes_is
      ∙ ap (λ (k : ℕ). drop k (image_of s)) (start_due_lem n (native.Mathlib.Nat.le_refl n))
      ∙ sym (drop-drop (length bodies) (front n) (image_of s))
      ∙ ap (drop (length bodies)) past_front
      ∙ drop_at bodies s.food (length bodies) refl

  all_snakes : each_below (snakes_in (image_of s)) (snake_at (image_of s)) ≡ s.snakes
  all_snakes =
      ap (λ (k : ℕ). each_below k (snake_at (image_of s))) snakes_is
      ∙ each_ext n (snake_at (image_of s)) (snake_of s) snake_is
      ∙ each_back s.snakes nobody

  pub state_back : state_of (image_of s) ≡ s
  unfolding state_of image_of
  state_back = λ j. record {
    side = s.side;
    due = s.due;
    birth = bit_back s.birth j;
    snakes = all_snakes j;
    food = food_is j;
  }

  -- how long an image is
  pub image_long : length (image_of s) ≡ front n + length bodies + length s.food
  unfolding image_of
  image_long = omega (arith, length-append table (bodies ++ s.food), length-append bodies s.food, records_long n)
