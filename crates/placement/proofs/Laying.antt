-- What the loop that places the snakes keeps: the bodies so far stand one after the other, and none of them is short. Assumes nothing.
use Prim.Native.Nat.{ℕ, ◌+◌, ◌<◌, ◌≤◌}
use native.Mathlib.Omega.{arith}
use mathlib.Core.Path.{◌≡◌, refl, sym, ap, ap₂, ◌∙◌}
use mathlib.Core.Bool.{Bool, false, ◌||◌}
use mathlib.Core.List.{List, map}
use lib.Dec.{ltb}
use lib.IntN.{pos}
use lib.ListN.{length, length-map}
use borrow.Author.Tests.{lt-ltb, le-ltb}
use Rattle.lists.specs.Below.{some_below, concat_below}
use Rattle.lists.specs.Lists.{write_at}
use Rattle.lists.proofs.Below.{some_none, some_next, some_found, concat_long, sum_le}
use Rattle.lists.proofs.Writes.{turn_start, turn_start_at, turn_next, turn_next_at, length_write}
use Rattle.rules.specs.Grid.{cell_of}
use Rattle.rules.specs.Placement.{start_place, tracing, even, traced, placed}
use Rattle.rules.specs.SettingParts.{cells_of}
use Rattle.rules.specs.declared.Place.{Place}
use Rattle.rules.proofs.PlaceCheck.{body_reach}
use Rattle.placement.specs.Traces.{Laid, Placed, Traceable}
use Rattle.std.specs.Prelude.{Ok, Err}
use Rattle.rules.specs.Says.{Says}
use Rattle.rules.specs.declared.refusal.Refusal.{Refusal}
use Rattle.rules.specs.declared.refusal.Refusal.TheVariants as Refusal

err_ok : {k : Refusal} → ◌≡◌ {A = Says (Unit {0})} (Err k) (Ok tt) → ⊥
err_ok e = let z : ◌≡◌ {A = ℕ} 0 1 = cc in omega arith

-- a body that is traced from where snake i starts is its body
pub body_is : (g n size i : ℕ) (start : Place) → start ≡ start_place (pos g) n i
    → map (cell_of g) (traced (pos g) (tracing (even i)) size start) ≡ cells_of g n size i
unfolding placed
body_is g n size i start e = ap (λ (p : Place). map (cell_of g) (traced (pos g) (tracing (even i)) size p)) e

pub record Laying (g n size : ℕ) (old cells : List ℕ) (at i : ℕ) : Type 0 where
  pub most : i ≤ n
  pub place : at ≡ 0 + length (concat_below i (cells_of g n size))
  pub long : length cells ≡ length old
  pub words : cells ≡ write_at old 0 (concat_below i (cells_of g n size))
  pub none : some_below i (λ i. ltb (length (placed (pos g) n size i)) size) ≡ false

module _ (g n size : ℕ) (old : List ℕ) (ready : Traceable g n size old) where
  short : ℕ → Bool
  short i = ltb (length (placed (pos g) n size i)) size

  pub laying_start : Laying g n size old old 0 0
  laying_start =
      record {
        most = omega arith;
        place = turn_start_at old 0 (cells_of g n size);
        long = refl;
        words = turn_start old 0 (cells_of g n size);
        none = some_none (λ i. ltb (length (placed (pos g) n size i)) size);
      }

  cells_most : (i : ℕ) → i < n → length (cells_of g n size i) ≤ 125
  cells_most i h = rw (length-map (placed (pos g) n size i) (cell_of g)) (body_reach g n size ready.side_min ready.side_max ready.size_min i h)

  module _ (cells : List ℕ) (at i : ℕ) (s : Laying g n size old cells at i) where
    pub laying_room : i < n → at + 125 ≤ length cells
    laying_room h =
        let m = sum_le (λ j. length (cells_of g n size j)) 125 i (λ j l. cells_most j (omega arith)) in
        let e = concat_long i (cells_of g n size) in
        omega (arith, m, e, s.place, s.long, ready.room)

    module _ (start : Place) (new : List ℕ) (r : ℕ) (h : i < n) (e : start ≡ start_place (pos g) n i)
        (w : Laid cells new at (map (cell_of g) (traced (pos g) (tracing (even i)) size start)) r) where
      count_is : r ≡ length (placed (pos g) n size i)
      count_is = w.count ∙ ap (λ (l : List ℕ). length l) (body_is g n size i start e) ∙ length-map (placed (pos g) n size i) (cell_of g)

      words_are : new ≡ write_at cells at (cells_of g n size i)
      words_are = w.words ∙ ap (write_at cells at) (body_is g n size i start e)

      pub laying_long : length new ≡ length old
      laying_long =
          ap (λ (l : List ℕ). length l) words_are
          ∙ length_write cells at (cells_of g n size i) (omega (arith, laying_room h, cells_most i h))
          ∙ s.long

      pub laying_count : at + r ≤ length cells
      laying_count = omega (arith, laying_room h, count_is, cells_most i h, length-map (placed (pos g) n size i) (cell_of g))

      pub laying_short : r < size → Placed g n size old new (Err Refusal.Untraceable)
      laying_short l =
          record {
            says = rw (some_found (λ i. ltb (length (placed (pos g) n size i)) size) n i h (lt-ltb (length (placed (pos g) n size i)) size (omega (arith, count_is))));
            words = λ e. absurd (err_ok e);
          }

      pub laying_on : size ≤ r → Laying g n size old new (at + r) (i + 1)
      laying_on l =
          let q : r ≡ length (cells_of g n size i) = count_is ∙ sym (length-map (placed (pos g) n size i) (cell_of g)) in
          record {
            most = omega arith;
            place = ap (λ (k : ℕ). at + k) q ∙ turn_next_at old 0 (cells_of g n size) i at s.place;
            long = laying_long;
            words = words_are ∙ turn_next old 0 (cells_of g n size) i at cells s.place (omega arith) s.words;
            none =
                some_next (λ i. ltb (length (placed (pos g) n size i)) size) i
                ∙ ap₂ ◌||◌ s.none (le-ltb (length (placed (pos g) n size i)) size (omega (arith, count_is)));
          }

    pub laying_end : n ≤ i → Placed g n size old cells (Ok tt)
    laying_end l =
        let e : i ≡ n = omega (arith, s.most) in
        record {
          says = rw (ap (λ (k : ℕ). some_below k (λ i. ltb (length (placed (pos g) n size i)) size)) (sym e) ∙ s.none);
          words = λ _. s.words ∙ ap (λ (k : ℕ). write_at old 0 (concat_below k (cells_of g n size))) e;
        }
