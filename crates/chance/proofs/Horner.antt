-- The rank as a loop adds it up, cell by cell, and the test that each cell is there when its turn comes. Assumes nothing.
use Rattle.std.specs.Prelude.{Ok, Err}
use mathlib.Core.Path.{◌≡◌, refl, sym, ap, ap₂, ◌∙◌, subst}
use mathlib.Core.Bool.{Bool, true, false, ◌&&◌}
use mathlib.Core.List.{List, [], ◌∷◌}
use Prim.Native.Nat.{ℕ, suc, ◌+◌, ◌-◌, ◌*◌, ◌≤◌, ◌<◌, ◌^◌}
use native.Mathlib.Nat.{le_trans, mul_assoc, add-mul, zero-mul, zero-add}
use native.Mathlib.Numerals.{add-one}
use native.Mathlib.Omega.{arith}
use mir.Syntax.{w64}
use mir.Val.{Fits}
use lib.Arith.{digits_lt}
use lib.ListN.{length, get_or, drop, drop_of_length-le, length-drop}
use lib.Seq.{drop-cons}
use Rattle.lists.specs.Lists.{member, without, place}
use Rattle.lists.specs.Products.{falling}
use Rattle.lists.proofs.Tests.{both, and_left, and_right}
use Rattle.lists.proofs.Members.{agree, fails, length_without, place_lt}
use Rattle.lists.proofs.Products.{falling_next, falling_first, falling_mono, falling_none}
use Rattle.rules.specs.State.{State}
use Rattle.rules.specs.declared.refusal.Refusal.{Refusal}
use Rattle.rules.specs.Chance.{free, draw_size, rank_in, can_rank}
use Rattle.rules.proofs.FreeCells.{free_distinct}
use Rattle.rules.proofs.Draws.{InTurn, in_turn_lem, turn_among, turn_distinct}
use Rattle.rules.proofs.Fairness.{ranked_listed, listed_ranked}
use Rattle.strips.specs.Marks.{marked, unmarked, Marked, Counted, Free}
use Rattle.strips.proofs.Finding.{unmarked_less, open_member, square_place, off_area, taken_square}
use Rattle.chance.specs.Ranking.{in_turn, rank_left, Placed, Rankable, Ranked, RankedTo}
use Rattle.rules.specs.declared.refusal.Refusal.TheVariants as Refusal

-- ---- the test

turn_true : (cells l : List ℕ) → in_turn cells l ≡ true → InTurn cells l
unfolding in_turn
turn_true cells [] h = tt
turn_true cells (c ∷ l) h =
    let r = in_turn (without c cells) l in
    (and_left (member c cells) r h, turn_true (without c cells) l (and_right (member c cells) r h))

true_turn : (cells l : List ℕ) → InTurn cells l → in_turn cells l ≡ true
unfolding in_turn
true_turn cells [] h = refl
true_turn cells (c ∷ l) h = both h.0 (true_turn (without c cells) l h.1)

-- a list of the right length can be ranked if and only if each cell is free when its turn comes
pub can_rank_lem : (t : State) (l : List ℕ) → length l ≡ draw_size t → can_rank t l ≡ in_turn (free t) l
can_rank_lem t l e =
    agree (can_rank t l) (in_turn (free t) l)
    (λ h. let r = ranked_listed t l h in true_turn (free t) l (in_turn_lem (free t) l r.among r.once))
    (λ h. let g = turn_true (free t) l h in
    listed_ranked t l (record { long = e; among = turn_among (free t) l g; once = turn_distinct (free t) l (free_distinct t) g }))

pub wrong_length : (t : State) (l : List ℕ) → (length l ≡ draw_size t → ⊥) → can_rank t l ≡ false
wrong_length t l n = fails (can_rank t l) (λ h. n (ranked_listed t l h).long)

-- ---- a turn of the loop, at cell j of the list

module _ (cells l : List ℕ) (j : ℕ) where
  turn_end : length l ≤ j → in_turn cells (drop j l) ≡ true
  unfolding in_turn
  turn_end h = rw (drop_of_length-le l h)

  turn_left : j < length l → in_turn cells (drop j l) ≡ (member (get_or l j 0) cells && in_turn (without (get_or l j 0) cells) (drop (j + 1) l))
  unfolding in_turn
  turn_left h = rw (drop-cons l j 0 h, add-one j)

  turn_fails : j < length l → member (get_or l j 0) cells ≡ false → in_turn cells (drop j l) ≡ false
  turn_fails h e = rw (turn_left h, e)

  turn_next : j < length l → member (get_or l j 0) cells ≡ true → in_turn cells (drop j l) ≡ in_turn (without (get_or l j 0) cells) (drop (j + 1) l)
  turn_next h e = rw (turn_left h, e)

  rank_end : length l ≤ j → rank_in cells (drop j l) ≡ 0
  unfolding rank_in
  rank_end h = rw (drop_of_length-le l h)

  rank_left_lem : j < length l → rank_in cells (drop j l)
      ≡ place (get_or l j 0) cells * falling (length (without (get_or l j 0) cells)) (length l - (j + 1)) + rank_in (without (get_or l j 0) cells) (drop (j + 1) l)
  unfolding rank_in
  rank_left_lem h = rw (drop-cons l j 0 h, add-one j, length-drop (suc j) l)

spread : (r m p f q : ℕ) → (r * m + p) * f + q ≡ r * (m * f) + (p * f + q)
spread r m p f q = omega (arith, add-mul (r * m) p f, mul_assoc r m f)

module _ (cells l : List ℕ) (j r : ℕ) (h : j < length l) (e : member (get_or l j 0) cells ≡ true) where
  rank_next : rank_left (without (get_or l j 0) cells) l (j + 1) (r * length cells + place (get_or l j 0) cells) ≡ rank_left cells l j r
  rank_next =
      let c = get_or l j 0 in
      let w = without c cells in
      let k = length l - (j + 1) in
      let s : length l - j ≡ suc k = omega arith in
      let n : length cells - 1 ≡ length w = omega (arith, length_without c cells e) in
      let f : falling (length cells) (length l - j) ≡ length cells * falling (length w) k =
      ap (falling (length cells)) s ∙ falling_first (length cells) k ∙ ap (λ (m : ℕ). length cells * falling m k) n in
      spread r (length cells) (place c cells) (falling (length w) k) (rank_in w (drop (j + 1) l))
      ∙ ap₂ (λ (x y : ℕ). r * x + y) (sym f) (sym (rank_left_lem cells l j h))

-- the rank so far is below the product so far, so that it fits
module _ (n j k r p : ℕ) (b : r < falling n j) (g : p < n - j) where
  rank_below : r * (n - j) + p < falling n (j + 1)
  rank_below = rw (falling_next n j) (digits_lt b g)

  rank_fits : j < k → k ≤ n → falling n k < 2 ^ 64 → r * (n - j) + p < 2 ^ 64
  rank_fits h m f = le_trans rank_below (le_trans (falling_mono n (j + 1) k (omega arith) m) (omega arith))

-- ---- before the first cell, and after the last

rank_start : (cells l : List ℕ) → rank_left cells l 0 0 ≡ rank_in cells l
rank_start cells l = ap (λ (k : ℕ). k + rank_in cells l) (zero-mul (falling (length cells) (length l - 0))) ∙ zero-add (rank_in cells l)

rank_small : (n : ℕ) → 0 < falling n 0
rank_small n = rw falling_none (omega arith)

rank_done : (cells l : List ℕ) (j r : ℕ) → length l ≤ j → rank_left cells l j r ≡ r
rank_done cells l j r h =
    let e : length l - j ≡ 0 = omega arith in
    rw (e, falling_none, rank_end cells l j h) (omega arith)

-- one cell ranked and marked
module _ (b new l : List ℕ) (area free j r p : ℕ) where
  abbrev x : ℕ
  x = get_or l j 0

  module _ (h : j < length l) (g : x < area) (u : marked b x ≡ false) (m : Marked x b new) (n : length (unmarked b area) + j ≡ free) (e : p ≡ length (unmarked b x)) where
    here : member x (unmarked b area) ≡ true
    here = open_member b area x g u

    left_one : length (unmarked new area) + (j + 1) ≡ free
    left_one = rw (unmarked_less b new x m area) (let z = length_without x (unmarked b area) here in omega arith)

    turn_one : in_turn (unmarked new area) (drop (j + 1) l) ≡ in_turn (unmarked b area) (drop j l)
    turn_one = rw (unmarked_less b new x m area) (sym (turn_next (unmarked b area) l j h here))

    place_is : p ≡ place x (unmarked b area)
    place_is = e ∙ sym (square_place b area x g u)

    rank_one : rank_left (unmarked new area) l (j + 1) (r * (free - j) + p) ≡ rank_left (unmarked b area) l j r
    rank_one =
        let m' : free - j ≡ length (unmarked b area) = omega arith in
        ap (λ (c : List ℕ). rank_left c l (j + 1) (r * (free - j) + p)) (unmarked_less b new x m area)
        ∙ ap₂ (λ (m q : ℕ). rank_left (without x (unmarked b area)) l (j + 1) (r * m + q)) m' place_is
        ∙ rank_next (unmarked b area) l j r h here

-- the place of a free square is below what is free
place_under : (b : List ℕ) (area c p : ℕ) → c < area → marked b c ≡ false → p ≡ length (unmarked b c) → p < length (unmarked b area)
place_under b area c p g u e = rw (e ∙ sym (square_place b area c g u)) (place_lt c (unmarked b area) (open_member b area c g u))

-- ---- the loop that ranks a list, from its first turn to its end

module _ (l : List ℕ) (area free : ℕ) (start : List ℕ) where
  pub ranked_none : (tally : List ℕ) → Rankable l area free start → Counted area start tally → RankedTo l area free start start tally 0 0
  ranked_none tally q k = record {
    within = omega arith;
    counted = k;
    left = omega (arith, q.squares.left_is);
    turn = refl;
    rest = rank_start (unmarked start area) l;
    below = rank_small free;
  }

  module _ (b tally : List ℕ) (r j : ℕ) (v : RankedTo l area free start b tally r j) where
    pub ranked_all : length l ≤ j → Ranked (unmarked start area) l (Ok r)
    ranked_all h =
        let e = sym v.turn ∙ turn_end (unmarked b area) l j h in
        record { answer = rw e (ap Ok (sym (rank_done (unmarked b area) l j r h) ∙ v.rest)) }

    module _ (h : j < length l) where
      refused : member (get_or l j 0) (unmarked b area) ≡ false → Ranked (unmarked start area) l (Err Refusal.List)
      refused m = let e = sym v.turn ∙ turn_fails (unmarked b area) l j h m in record { answer = rw e refl }

      fits : Rankable l area free start → (p : ℕ) → p < free - j → r * (free - j) + p < 2 ^ 64
      fits q p k = rank_fits free j (length l) r p v.below k h q.few q.fits

      pub ranked_times : Rankable l area free start → Fits w64 (r * (free - j))
      ranked_times q = let f = fits q 0 (omega (arith, q.few)) in omega arith

      -- the cell that stands next
      module _ (c : ℕ) (z : c ≡ get_or l j 0) where
        pub ranked_off : area ≤ c → Ranked (unmarked start area) l (Err Refusal.List)
        ranked_off g = refused (rw (← z) (off_area b area c g))

        module _ (t : Bool) (m : t ≡ marked b c) where
          pub ranked_taken : t ≡ true → Ranked (unmarked start area) l (Err Refusal.List)
          ranked_taken y = refused (rw (← z) (taken_square b area c (sym m ∙ y)))

          module _ (y : t ≡ false) (g : c < area) where
            pub ranked_free : Free area b tally c
            ranked_free = record { counted = v.counted; inside = g; clear = sym m ∙ y }

            module _ (q : Rankable l area free start) (p : ℕ) (new after : List ℕ) (k : Placed area c b new after p) where
              small : p < free - j
              small = omega (arith, place_under b area c p g (sym m ∙ y) k.place, v.left)

              pub ranked_room : Fits w64 (r * (free - j) + p)
              ranked_room = omega (arith, fits q p small)

              pub ranked_next : RankedTo l area free start new after (r * (free - j) + p) (j + 1)
              ranked_next =
                  let i : get_or l j 0 < area = subst (λ (n : ℕ). n < area) z g in
                  let u : marked b (get_or l j 0) ≡ false = subst (λ (n : ℕ). marked b n ≡ false) z (sym m ∙ y) in
                  let k' : Placed area (get_or l j 0) b new after p = subst (λ (n : ℕ). Placed area n b new after p) z k in
                  let o = k'.took.marks in
                  record {
                    within = omega arith;
                    counted = k.took.counted;
                    left = left_one b new l area free j r p h i u o v.left k'.place;
                    turn = turn_one b new l area free j r p h i u o v.left k'.place ∙ v.turn;
                    rest = rank_one b new l area free j r p h i u o v.left k'.place ∙ v.rest;
                    below = rank_below free j 0 r p v.below small;
                  }
