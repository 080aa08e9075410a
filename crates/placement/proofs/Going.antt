-- What the loop that traces a body keeps: the cells of the places so far are written, and what is to come is the rest of the body. Assumes nothing.
use Prim.Native.Nat.{ℕ, ◌+◌, ◌-◌, ◌<◌, ◌≤◌}
use native.Mathlib.Nat.{le_refl}
use Rattle.std.proofs.Common.{add-zero}
use native.Mathlib.Omega.{arith}
use mathlib.Core.Path.{◌≡◌, refl, sym, ap, subst, ◌∙◌}
use mathlib.Core.Bool.{Bool, true}
use mathlib.Core.List.{List, map}
use lib.IntN.{ℤ, pos, negsuc, nat_abs}
use lib.Signed.{mag}
use lib.ListN.{length, drop, set, length-set, length-map}
use lib.Seq.{paste, paste-zero}
use Rattle.rules.specs.Grid.{inside, cell_of}
use Rattle.rules.specs.Placement.{tracing, traced, trail, unblocked}
use Rattle.rules.specs.declared.Place.{Place}
use Rattle.rules.proofs.Grid.{row_below, col_below}
use Rattle.rules.proofs.Placement.{traced_reach}
use Rattle.rules.proofs.PlaceCheck.{four_turns}
use Rattle.grid.specs.Near.{Near}
use Rattle.placement.specs.Traces.{Walked, Laid}
use Rattle.placement.proofs.Walks.{place_in, place_is, full, stuck, goes_on, cell_written, all_written}

mag_abs : (x : ℤ) → mag x ≤ nat_abs x
mag_abs (pos n) = le_refl n
mag_abs (negsuc n) = omega arith

-- a place inside is near
pub inside_near : (g : ℕ) (p : Place) → g ≤ 32 → inside (pos g) p ≡ true → Near p
inside_near g p s i =
    record {
      row = omega (arith, mag_abs p.row, row_below g p i);
      col = omega (arith, mag_abs p.col, col_below g p i);
    }

abbrev pub body_of : ℕ → Bool → ℕ → Place → List Place
body_of g e size start = traced (pos g) (tracing e) size start

-- `cells` where the first k places of the trace are written, the last of them p, by the turn t
pub record Going (g : ℕ) (e : Bool) (size : ℕ) (start : Place) (old : List ℕ) (at : ℕ) (cells : List ℕ) (p : Place) (t k : ℕ) : Type 0 where
  pub most : k ≤ size
  pub long : length cells ≡ length old
  pub words : cells ≡ paste old at (map (cell_of g) (body_of g e size start)) k
  pub turns : t ≤ 4
  pub within : inside (pos g) p ≡ true
  pub reached : k ≤ length (body_of g e size start)
  pub rest : trail (size - k) (pos g) (unblocked (pos g) (drop t (tracing e)) p) p ≡ drop k (body_of g e size start)

module _ (g : ℕ) (e : Bool) (size : ℕ) (start : Place) (old : List ℕ) (at : ℕ) (room : at + 125 ≤ length old) (inn : inside (pos g) start ≡ true) where
  pub going_start : 1 ≤ size → (x : ℕ) → x ≡ cell_of g start → Going g e size start old at (set old at x) start 0 1
  going_start h x v =
      record {
        most = h;
        long = length-set old at x;
        words =
            ap (λ (j : ℕ). set old j x) (sym (add-zero at))
            ∙ ap (set old (at + 0)) v
            ∙ cell_written (cell_of g) old at (body_of g e size start) 0 start (omega arith) refl (omega arith) old (paste-zero old at (map (cell_of g) (body_of g e size start)));
        turns = omega arith;
        within = inn;
        reached = omega arith;
        rest = refl;
      }

  module _ (small : g ≤ 32) (cells : List ℕ) (p : Place) (t k : ℕ) (s : Going g e size start old at cells p t k) where
    ends : length (body_of g e size start) ≡ k → Laid old cells at (map (cell_of g) (body_of g e size start)) k
    ends n =
        record {
          count = sym n ∙ sym (length-map (body_of g e size start) (cell_of g));
          words = s.words ∙ all_written (cell_of g) old at (body_of g e size start) k n;
        }

    pub going_full : size ≤ k → Laid old cells at (map (cell_of g) (body_of g e size start)) size
    going_full f =
        let n : k ≡ size = omega (arith, s.most) in
        subst (Laid old cells at (map (cell_of g) (body_of g e size start))) n (ends (full (pos g) e (body_of g e size start) size k t p s.reached s.rest f))

    pub going_stuck : Walked (pos g) (tracing e) p t p 4 → Laid old cells at (map (cell_of g) (body_of g e size start)) k
    going_stuck w = ends (stuck (pos g) e (body_of g e size start) size k t p s.reached s.rest w.left)

    module _ (h : k < size) (q : Place) (u : ℕ) (l : u < 4) (w : Walked (pos g) (tracing e) p t q u) where
      next_in : k < length (body_of g e size start)
      next_in = place_in (pos g) e (body_of g e size start) size k t p s.reached s.rest h u q l w.left (w.step l)

      pub going_room : at + k < length old
      going_room = omega (arith, next_in, traced_reach g small (tracing e) size start inn, four_turns e)

      pub going_on : (x : ℕ) → x ≡ cell_of g q → Going g e size start old at (set cells (at + k) x) q u (k + 1)
      going_on x v =
          record {
            most = omega arith;
            long = length-set cells (at + k) x ∙ s.long;
            words =
                ap (set cells (at + k)) v
                ∙ cell_written (cell_of g) old at (body_of g e size start) k q next_in
                (place_is (pos g) e (body_of g e size start) size k t p s.reached s.rest h u q l w.left (w.step l)) going_room cells s.words;
            turns = w.most;
            within = w.within l;
            reached = omega (arith, next_in);
            rest = goes_on (pos g) e (body_of g e size start) size k t p s.reached s.rest h u q l w.left (w.step l);
          }
