-- What the loops of the check go by: how far each has come, and a law for each way through a turn. Assumes nothing.
use Prim.Native.Nat.{ℕ, ◌+◌, ◌*◌, ◌<◌, ◌≤◌}
use native.Mathlib.Omega.{arith}
use mathlib.Core.Path.{◌≡◌, refl, sym, ap, ap₂, ◌∙◌}
use mathlib.Core.Bool.{Bool, true, false, not, ◌&&◌}
use mathlib.Core.List.{List}
use mir.Syntax.{w64}
use mir.Val.{Fits}
use lib.Dec.{leb, ltb, eqb}
use lib.ListN.{length, get_or, drop, replicate}
use borrow.Author.Tests.{not-true, not-false}
use Rattle.lists.specs.Below.{all_below}
use Rattle.lists.specs.Lists.{all, distinct, ascending}
use Rattle.lists.proofs.Below.{all_none, all_next, all_more, all_fails, all_done}
use Rattle.lists.proofs.Flags.{flag_next, flag_end, rising_next, rising_end}
use Rattle.boards.specs.Boards.{Board, Stamped}
use Rattle.boards.proofs.Boards.{board_blank}
use Rattle.rules.specs.Image.{snakes_in, start_at, body_at, start_due, record_fits, bodies_fit, starts_fit}
use Rattle.rules.proofs.Facts.{start_first, start_next, start_mono}
use Rattle.wellformed.specs.Checked.{Ranged, OnBoard, Adds, Below}
use Rattle.wellformed.proofs.Checked.{start_fits}

-- ---- `records_fit`: the flag tells of the first i records

pub record RecordsTo (w : List ℕ) (n : ℕ) (fit : Bool) (i : ℕ) : Type 0 where
  pub within : i ≤ n
  pub so_far : fit ≡ all_below i (record_fits w)

module _ (w : List ℕ) (n : ℕ) where
  pub records_none : RecordsTo w n true 0
  records_none = record { within = omega arith; so_far = sym (all_none _) }

  module _ (fit : Bool) (i : ℕ) (v : RecordsTo w n fit i) where
    pub records_next : i < n → (r : Bool) → r ≡ record_fits w i → RecordsTo w n (fit && r) (i + 1)
    records_next h r e = record { within = omega arith; so_far = ap₂ ◌&&◌ v.so_far e ∙ sym (all_next _ i) }

    pub records_all : n ≤ i → fit ≡ all_below n (record_fits w)
    records_all h = all_done _ v.within h v.so_far

-- ---- `laid_out`: snake i is due at `due`, and the flag tells of the starts before it

pub record AddsTo (w : List ℕ) (due : ℕ) (fits : Bool) (i : ℕ) : Type 0 where
  pub within : i ≤ snakes_in w
  pub due_is : due ≡ start_due w i
  pub so_far : fits ≡ all_below i (start_fits w)

module _ (w : List ℕ) where
  pub adds_none : (k : ℕ) → k ≡ 5 + 4 * snakes_in w → AddsTo w k true 0
  adds_none k e = record { within = omega arith; due_is = e ∙ sym (start_first w); so_far = sym (all_none (start_fits w)) }

  module _ (due : ℕ) (fits : Bool) (i : ℕ) (v : AddsTo w due fits i) where
    module _ (h : i < snakes_in w) (m : ℕ) (q : m ≡ 6 + 4 * i) where
      due_next : due + get_or w m 0 ≡ start_due w (i + 1)
      due_next = rw q (omega (arith, v.due_is, start_next w i))

      -- the food starts past all bodies, and early
      pub adds_fits : Ranged w → Fits w64 (due + get_or w m 0)
      adds_fits r = omega (arith, due_next, start_mono w (i + 1) (snakes_in w) (omega arith), r.food_early)

      pub adds_next : (k : ℕ) → k ≡ 5 + 4 * i → AddsTo w (due + get_or w m 0) (fits && eqb (get_or w k 0) due) (i + 1)
      adds_next k e = record {
        within = omega arith;
        due_is = due_next;
        so_far = rw e (ap₂ (λ (a : Bool) (d : ℕ). a && eqb (start_at w i) d) v.so_far v.due_is) ∙ sym (all_next (start_fits w) i);
      }

    pub adds_all : snakes_in w ≤ i → Adds w (record { fits = fits; food = due })
    unfolding starts_fit
    adds_all h =
        let e : i ≡ snakes_in w = omega (arith, v.within) in
        record { starts = v.so_far ∙ ap (λ (k : ℕ). all_below k (start_fits w)) e; food_is = v.due_is ∙ ap (start_due w) e }

-- ---- the body of snake i, whose start and length stand at words k and m

module _ (w : List ℕ) (o : OnBoard w) (i : ℕ) (h : i < snakes_in w) (k m : ℕ) (e : k ≡ 5 + 4 * i) (q : m ≡ 6 + 4 * i) where
  body_early : get_or w k 0 + get_or w m 0 ≤ 8229
  body_early = rw (e, q) (omega (arith, o.laid.bodies_in i h, o.laid.ranged.food_early))

  pub body_fits : Fits w64 (get_or w k 0 + get_or w m 0)
  body_fits = omega (arith, body_early)

  pub body_ends : get_or w k 0 + get_or w m 0 ≤ length w
  body_ends = rw (e, q) (omega (arith, o.laid.bodies_in i h, o.laid.food_in))

-- ---- `bodies_fit`: the bodies so far have no cell twice, and the next stamp is new to the board

pub record BodiesTo (w board : List ℕ) (i : ℕ) : Type 0 where
  pub within : i ≤ snakes_in w
  pub so_far : all_below i (λ k. distinct (body_at w k)) ≡ true
  pub next : Board (i + 1) board

pub bodies_none : (w : List ℕ) → BodiesTo w (replicate 1024 0) 0
bodies_none w = record { within = omega arith; so_far = all_none _; next = board_blank }

module _ (w board : List ℕ) (i : ℕ) (v : BodiesTo w board i) where
  module _ (h : i < snakes_in w) (b : Bool) (next : List ℕ) (s : Stamped (body_at w i) (i + 1) b next) where
    pub bodies_fail : not b ≡ true → false ≡ bodies_fit w
    unfolding bodies_fit
    bodies_fail t = sym (all_fails _ (snakes_in w) i h (sym s.says ∙ not-true b t))

    pub bodies_next : not b ≡ false → BodiesTo w next (i + 1)
    bodies_next t = record { within = omega arith; so_far = all_more _ i v.so_far (sym s.says ∙ not-false b t); next = s.next }

  pub bodies_all : snakes_in w ≤ i → true ≡ bodies_fit w
  unfolding bodies_fit
  bodies_all h = all_done _ v.within h (sym v.so_far)

-- ---- `cells_below`: the flag, and the test of what is left, give the whole answer

pub record BelowTo (l : List ℕ) (area : ℕ) (below : Bool) (k : ℕ) : Type 0 where
  pub within : k ≤ length l
  pub rest : (below && all (λ c. ltb c area) (drop k l)) ≡ all (λ c. ltb c area) l

module _ (l : List ℕ) (area : ℕ) where
  pub below_none : BelowTo l area true 0
  below_none = record { within = omega arith; rest = refl }

  module _ (below : Bool) (k : ℕ) (v : BelowTo l area below k) where
    pub below_next : k < length l → BelowTo l area (below && ltb (get_or l k 0) area) (k + 1)
    below_next h = record { within = omega arith; rest = flag_next (λ c. ltb c area) l k 0 below h v.rest }

    pub below_all : length l ≤ k → Below l area below
    below_all h = record { says = flag_end (λ c. ltb c area) l k 0 below h v.rest }

-- ---- `rising`: the flag, and the test of what is left above `low`, give the whole answer

pub record RisingTo (l : List ℕ) (rises : Bool) (low k : ℕ) : Type 0 where
  pub within : k ≤ length l
  pub rest : (rises && ascending low (drop k l)) ≡ ascending 0 l

module _ (l : List ℕ) where
  pub rising_none : RisingTo l true 0 0
  rising_none = record { within = omega arith; rest = refl }

  module _ (rises : Bool) (low k : ℕ) (v : RisingTo l rises low k) where
    pub rising_turn : k < length l → RisingTo l (rises && leb low (get_or l k 0)) (get_or l k 0 + 1) (k + 1)
    rising_turn h = record { within = omega arith; rest = rising_next low l k (ascending 0 l) rises h v.rest }

    pub rising_all : length l ≤ k → rises ≡ ascending 0 l
    rising_all h = rising_end low l k (ascending 0 l) rises h v.rest
