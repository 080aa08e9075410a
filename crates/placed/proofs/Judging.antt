-- From placed bodies to the number that is given: 9, 11, 12 or none. Assumes nothing.
use Prim.Native.Nat.{ℕ, ◌+◌, ◌-◌, ◌*◌, ◌≤◌}
use native.Mathlib.Nat.{mul-le-mul}
use native.Mathlib.Omega.{arith}
use mathlib.Core.Path.{◌≡◌, refl, sym, ap, ◌∙◌}
use mathlib.Core.Bool.{Bool, true, false, ◌&&◌}
use mathlib.Core.List.{List}
use lib.Dec.{ltb}
use lib.IntN.{ℤ, pos}
use lib.ListN.{length, take, drop, length-map}
use lib.Seq.{take-append_seam}
use borrow.Author.Tests.{lt-ltb, le-ltb}
use Rattle.lists.specs.Choice.{◌if◌else◌}
use Rattle.lists.specs.Below.{concat_below}
use Rattle.boards.specs.Boards.{Under}
use Rattle.lists.specs.Lists.{write_at, over_front, distinct}
use Rattle.lists.proofs.Tests.{ordered, less, more}
use Rattle.lists.proofs.Writes.{write_front}
use Rattle.rules.specs.Grid.{cell_of}
use Rattle.rules.specs.Setting.{side_of, all_placed, some_short}
use Rattle.rules.specs.SettingParts.{place_says, cells_of}
use Rattle.rules.specs.Says.{Says}
use Rattle.rules.specs.declared.refusal.Refusal.{Refusal}
use Rattle.rules.specs.declared.refusal.Refusal.TheVariants as Refusal
use Rattle.std.specs.Prelude.{Ok, Err}
use Rattle.rules.proofs.PlaceCheck.{all_cells, body_reach, cells_under, check_cells, body_long, all_long}
use Rattle.placement.specs.Traces.{Traceable, Placed}
use Rattle.placed.specs.Tested.{Tested}

refused_none : {k : Refusal} → ◌≡◌ {A = Says (Unit {0})} (Err k) (Ok tt) → ⊥
refused_none e = let z : ◌≡◌ {A = ℕ} 0 1 = cc in omega arith

-- what refuses for a short body refuses before all else
short_first : (t : Bool) (k : Refusal) (r : Says (Unit {0})) → ◌≡◌ {A = Says (Unit {0})} (Err k) (Err Refusal.Untraceable if t else Ok tt)
    → ◌≡◌ {A = Says (Unit {0})} (Err Refusal.Untraceable if t else Ok tt) (Err Refusal.Untraceable if t else r)
short_first true k r e = refl
short_first false k r e = absurd (refused_none e)

-- 'food above the free cells', without a difference
pub free_less : (a t f : ℕ) → ltb (a - t) f ≡ (ltb 0 f && ltb a (f + t))
free_less a t f = elim (ordered (a - t) f) [
  | less l e ↦ rw (e, lt-ltb 0 f (omega arith), lt-ltb a (f + t) (omega arith))
  | more l e ↦ elim (ordered 0 f) [
    | less k d ↦ rw (e, d, le-ltb a (f + t) (omega arith))
    | more k d ↦ rw (e, d)
  ]
]

module _ (g n size f : ℕ) (old : List ℕ) (ready : Traceable g n size old) (new : List ℕ) (b : Says (Unit {0})) (p : Placed g n size old new b) where
  some_of : (t : Bool) → ◌≡◌ {A = Says (Unit {0})} (Err Refusal.Untraceable if t else Ok tt) (Ok tt) → t ≡ false
  some_of true e = absurd (refused_none e)
  some_of false e = refl

  -- a body that is short refuses, as the table does
  pub judge_short : (k : Refusal) → b ≡ Err k → Tested (place_says (pos g) n size f) (concat_below n (cells_of g n size)) old new (Err k)
  judge_short k t =
      let q : ◌≡◌ {A = Says (Unit {0})} (Err k) (Err Refusal.Untraceable if some_short (pos g) n size else Ok tt) = sym t ∙ p.says in
      record {
        says = q ∙ short_first (some_short (pos g) n size) k _ q ∙ sym (check_cells g n size ready.side_min ready.side_max ready.size_min f);
        words = λ z. absurd (refused_none z);
      }

  module _ (t : b ≡ Ok tt) where
    none : some_short (pos g) n size ≡ false
    none = some_of (some_short (pos g) n size) (sym p.says ∙ t)

    size_most : size ≤ 125
    size_most =
        omega (arith, body_long g n size ready.side_min ready.side_max ready.size_min none 0 (omega (arith, ready.snakes_min)), body_reach g n size ready.side_min ready.side_max ready.size_min 0 (omega (arith, ready.snakes_min)))

    pub total_most : n * size ≤ 1000
    total_most = mul-le-mul ready.snakes_max size_most

    total_is : length (concat_below n (cells_of g n size)) ≡ n * size
    total_is =
        ap (λ (l : List ℕ). length l) (sym (all_cells g n size ready.side_min ready.side_max ready.size_min))
        ∙ length-map (all_placed (pos g) n size) (cell_of g)
        ∙ all_long g n size ready.side_min ready.side_max ready.size_min none

    words_are : new ≡ write_at old 0 (concat_below n (cells_of g n size))
    words_are = p.words t

    pub part_cells : take (n * size) new ≡ concat_below n (cells_of g n size)
    unfolding over_front
    part_cells =
        ap (λ (k : ℕ). take k new) (sym total_is)
        ∙ ap (take (length (concat_below n (cells_of g n size)))) (words_are ∙ write_front old (concat_below n (cells_of g n size)))
        ∙ take-append_seam (concat_below n (cells_of g n size)) (drop (length (concat_below n (cells_of g n size))) old)

    pub part_under : Under 1024 (take (n * size) new)
    part_under = rw part_cells (cells_under g n size ready.side_min ready.side_max ready.size_min)

    module _ (d : Bool) (e : d ≡ distinct (take (n * size) new)) where
      told : distinct (concat_below n (cells_of g n size)) ≡ d
      told = ap distinct (sym part_cells) ∙ sym e

      pub judge_twice : d ≡ false → Tested (place_says (pos g) n size f) (concat_below n (cells_of g n size)) old new (Err Refusal.CellTaken)
      judge_twice h =
          record {
            says = sym (check_cells g n size ready.side_min ready.side_max ready.size_min f ∙ rw (none, told, h));
            words = λ z. absurd (refused_none z);
          }

      pub judge_last : d ≡ true → (r : Says (Unit {0})) → r ≡ (Err Refusal.FoodFree if ltb (g * g - n * size) f else Ok tt) → Tested (place_says (pos g) n size f) (concat_below n (cells_of g n size)) old new r
      judge_last h r q =
          record {
            says =
                q
                ∙ sym
                (check_cells g n size ready.side_min ready.side_max ready.size_min f
                ∙ rw (none, told, h, all_long g n size ready.side_min ready.side_max ready.size_min none));
            words = λ _. words_are;
          }

-- ---- a number that is not 0, and the grid's side

-- a grid that is too small for any setting
pub judge_small : (said : Says (Unit {0})) (t : Bool) (k : Refusal) (cells old new : List ℕ) → said ≡ (Err Refusal.Untraceable if t else Err Refusal.CellOutside)
    → k ≡ (Refusal.Untraceable if t else Refusal.CellOutside) → Tested said cells old new (Err k)
judge_small said true k cells old new e q = record { says = ap Err q ∙ sym e; words = λ z. absurd (refused_none z) }
judge_small said false k cells old new e q = record { says = ap Err q ∙ sym e; words = λ z. absurd (refused_none z) }

-- the same of a grid and its side
pub judge_side : (g : ℤ) (m n k f : ℕ) (old new : List ℕ) (r : Says (Unit {0})) → m ≡ side_of g → g ≡ pos (side_of g)
    → Tested (place_says (pos m) n k f) (concat_below n (cells_of m n k)) old new r → Tested (place_says g n k f) (concat_below n (cells_of (side_of g) n k)) old new r
judge_side g m n k f old new r e h j =
    record {
      says = j.says ∙ ap (λ (z : ℤ). place_says z n k f) (ap pos e ∙ sym h);
      words = λ z. j.words z ∙ ap (λ (q : ℕ). write_at old 0 (concat_below n (cells_of q n k))) e;
    }
