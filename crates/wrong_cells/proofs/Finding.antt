-- Which word each search finds: a law for each return and each turn of a loop. Assumes nothing.
use Rattle.lists.specs.Search.{found_in}
use Rattle.lists.proofs.Search.{found_member}
use Rattle.std.specs.Prelude.{Option, Some, None, is_some}
use Prim.Native.Nat.{ℕ, ◌+◌, ◌-◌, ◌*◌, ◌<◌, ◌≤◌, max}
use native.Mathlib.Omega.{arith}
use mathlib.Core.Path.{◌≡◌, sym, ap, ◌∙◌}
use mathlib.Core.Bool.{Bool, true, false, not}
use mathlib.Core.List.{List}
use mir.Syntax.{w64}
use mir.Val.{Fits}
use lib.Dec.{leb}
use lib.ListN.{length, get_or, take, drop, length-drop}
use lib.Seq.{length-take-le}
use borrow.Author.Tests.{le-leb, lt-leb, not-true}
use Rattle.lists.specs.Lists.{member, distinct}
use Rattle.lists.proofs.Lowest.{lowest_le, Passing, pass_none, pass_from, pass_here, pass_on, pass_all}
use Rattle.lists.proofs.Below.{all_done}
use Rattle.lists.proofs.Lists.{part_is}
use Rattle.boards.specs.Boards.{Stamped}
use Rattle.rules.specs.Image.{word, snakes_in, area_in, body_at, food_start}
use Rattle.rules.specs.Faults.{cell_word, twice_in, food_word}
use Rattle.wellformed.specs.Checked.{FirstOut, OnBoard}
use Rattle.wellformed.proofs.Loops.{BodiesTo, body_ends, body_fits}

module _ (w : List ℕ) where
  -- ---- `first_beyond`

  abbrev pub Beyond : ℕ → Type 0
  Beyond k = Passing (λ j. leb (area_in w) (word w j)) (cell_word w) (length w) k

  pub beyond_from : (k : ℕ) → k ≡ 5 + 4 * snakes_in w → Beyond k
  unfolding cell_word
  beyond_from k e = rw e (pass_from _ (length w) (5 + 4 * snakes_in w))

  module _ (k : ℕ) (q : Beyond k) where
    pub beyond_here : k < length w → area_in w ≤ get_or w k 0 → k ≡ cell_word w
    beyond_here h l = pass_here _ (length w) _ k q h (le-leb (area_in w) (get_or w k 0) l)

    pub beyond_on : k < length w → get_or w k 0 < area_in w → Beyond (k + 1)
    beyond_on h l = pass_on _ (length w) _ k q h (lt-leb (area_in w) (get_or w k 0) l)

    pub beyond_none : length w ≤ k → k ≤ length w → length w ≡ cell_word w
    beyond_none h l = let e : length w ≡ k = omega arith in e ∙ pass_all _ (length w) _ k q h

  -- ---- `first_twice`: the bodies so far have no cell twice

  abbrev FirstTwice : Option ℕ → Type 0
  FirstTwice r = FirstOut (snakes_in w) (λ i. distinct (body_at w i)) r

  module _ (board : List ℕ) (i : ℕ) (v : BodiesTo w board i) where
    pub twice_here : i < snakes_in w → (b : Bool) (next : List ℕ) → Stamped (body_at w i) (i + 1) b next → not b ≡ true → FirstTwice (Some i)
    twice_here h b next s t = (h, sym s.says ∙ not-true b t, v.so_far)

    pub twice_none : snakes_in w ≤ i → FirstTwice None
    twice_none l = sym (all_done (λ i. distinct (body_at w i)) v.within l (sym v.so_far))

  -- ---- `twice_at`: the start and the length stand at words k and m

  module _ (o : OnBoard w) (i : ℕ) (h : i < snakes_in w) (k m : ℕ) (e : k ≡ 5 + 4 * i) (q : m ≡ 6 + 4 * i) where
    abbrev pub part : List ℕ
    part = take (get_or w k 0 + get_or w m 0 - get_or w k 0) (drop (get_or w k 0) w)

    part_long : length part ≡ get_or w m 0
    part_long = ap length (part_is w (get_or w k 0) (get_or w m 0)) ∙ length-take-le (get_or w m 0) (drop (get_or w k 0) w) (omega (arith, length-drop (get_or w k 0) w, body_ends w o i h k m e q))

    pub twice_fits : (r : ℕ) → r ≡ twice_in part → Fits w64 (get_or w k 0 + r)
    unfolding twice_in
    twice_fits r z = omega (arith, lowest_le (λ j. member (get_or part j 0) (take j part)) 0 (length part), part_long, body_fits w o i h k m e q)

  -- ---- `first_fall`

  pub record Falls (k : ℕ) : Type 0 where
    pub above : food_start w + 1 ≤ k
    pub within : k ≤ max (length w) (food_start w + 1)
    pub passing : Passing (λ j. leb (word w j) (word w (j - 1))) (food_word w) (length w) k

  pub falls_from : (food : ℕ) → food ≡ food_start w → Falls (food + 1)
  unfolding food_word
  falls_from food e = record { above = omega arith; within = omega arith; passing = rw e (pass_from _ (length w) (food_start w + 1)) }

  module _ (k : ℕ) (q : Falls k) where
    pub falls_here : k < length w → get_or w k 0 ≤ get_or w (k - 1) 0 → k ≡ food_word w
    falls_here h l = pass_here _ (length w) _ k q.passing h (le-leb (get_or w k 0) (get_or w (k - 1) 0) l)

    pub falls_on : k < length w → get_or w (k - 1) 0 < get_or w k 0 → Falls (k + 1)
    falls_on h l = record { above = omega (arith, q.above); within = omega arith; passing = pass_on _ (length w) _ k q.passing h (lt-leb (get_or w k 0) (get_or w (k - 1) 0) l) }

    pub falls_none : length w ≤ k → (food : ℕ) → food ≡ food_start w → (r : ℕ) → r ≡ max (length w) (food + 1) → r ≡ food_word w
    falls_none h food f r e = let same : r ≡ k = omega (arith, q.above, q.within) in same ∙ pass_all _ (length w) _ k q.passing h

-- ---- `twice_in`

module _ (l : List ℕ) where
  abbrev pub Twice : ℕ → Type 0
  Twice k = Passing (λ j. member (get_or l j 0) (take j l)) (twice_in l) (length l) k

  pub once_none : Twice 0
  unfolding twice_in
  once_none = pass_none _ (length l)

  module _ (k : ℕ) (q : Twice k) where
    module _ (h : k < length l) (r : Option ℕ) (f : r ≡ found_in (take k l) (get_or l k 0)) (b : Bool) (g : b ≡ is_some r) where
      seen : b ≡ member (get_or l k 0) (take k l)
      seen = g ∙ ap is_some f ∙ found_member (get_or l k 0) (take k l)

      pub once_here : b ≡ true → k ≡ twice_in l
      once_here t = pass_here _ (length l) _ k q h (sym seen ∙ t)

      pub once_on : b ≡ false → Twice (k + 1)
      once_on t = pass_on _ (length l) _ k q h (sym seen ∙ t)

    pub once_all : length l ≤ k → k ≤ length l → length l ≡ twice_in l
    once_all h m = let e : length l ≡ k = omega arith in e ∙ pass_all _ (length l) _ k q h
