-- What the loops that count go by: the squares without a mark of the strips passed, and one count a strip. Assumes nothing.
use mathlib.Core.Path.{◌≡◌, refl, sym, ap, ◌∙◌}
use mathlib.Core.Bool.{Bool, false}
use mathlib.Core.List.{List}
use Prim.Native.Nat.{ℕ, zero, suc, ◌+◌, ◌-◌, ◌*◌, ◌<◌, ◌≤◌}
use native.Mathlib.Nat.{zero-add, lt_irrefl, le_dest}
use native.Mathlib.Omega.{arith}
use lib.Arith.{lt_of_le-ne}
use mir.Syntax.{w8, w64}
use mir.Val.{Fits}
use lib.ListN.{length, get_or, set, take, replicate, length-append, length-set, length-replicate, get_or-append}
use lib.Seq.{get_or-set_same, get_or-set_other, get_or-take, length-take-le}
use Rattle.lists.proofs.Tests.{compared, same, other, ordered, less, more}
use Rattle.boards.specs.Free.{free_from}
use Rattle.boards.proofs.Free.{from_few, from_split}
use Rattle.strips.specs.Marks.{marked, unmarked, clear_from, Inside, Counted}
use Rattle.strips.proofs.Strips.{strip_open}

-- ---- runs of squares from one on

module _ (used : ℕ → Bool) (a : ℕ) where
  run_longer : (n d i : ℕ) → i < length (free_from used a n) → get_or (free_from used a (n + d)) i 0 ≡ get_or (free_from used a n) i 0
  run_longer n d i h = ap (λ (l : List ℕ). get_or l i 0) (from_split used n d a) ∙ get_or-append (free_from used a n) (free_from used (a + n) d) 0 i h

  -- in two runs that are both long enough, the i-th is the same
  pub run_same : (n m i : ℕ) → i < length (free_from used a n) → i < length (free_from used a m) → get_or (free_from used a n) i 0 ≡ get_or (free_from used a m) i 0
  run_same n m i h k = elim (ordered n m) [
    | less l t ↦ let (d, e) = le_dest l in sym (ap (λ (j : ℕ). get_or (free_from used a j) i 0) (let q : m ≡ n + suc d = omega arith in q) ∙ run_longer n (suc d) i h)
    | more l t ↦ let (d, e) = le_dest l in ap (λ (j : ℕ). get_or (free_from used a j) i 0) (sym e) ∙ run_longer m d i k
  ]

  pub run_more : (n d : ℕ) → length (free_from used a n) ≤ length (free_from used a (n + d))
  run_more n d = omega (arith, ap length (from_split used n d a), length-append (free_from used a n) (free_from used (a + n) d))

-- ---- the squares of the strips passed

module _ (strips : List ℕ) (s : ℕ) where
  pub open_more : length (unmarked strips ((s + 1) * 64)) ≡ length (unmarked strips (s * 64)) + length (free_from (marked strips) (s * 64) 64)
  unfolding unmarked
  open_more =
      let e : (s + 1) * 64 ≡ s * 64 + 64 = omega arith in
      ap (λ (k : ℕ). length (free_from (marked strips) 0 k)) e
      ∙ ap length (from_split (marked strips) (s * 64) 64 0)
      ∙ length-append (free_from (marked strips) 0 (s * 64)) (free_from (marked strips) (0 + s * 64) 64)
      ∙ ap (λ (k : ℕ). length (free_from (marked strips) 0 (s * 64)) + length (free_from (marked strips) k 64)) (zero-add (s * 64))

  strip_few : length (free_from (marked strips) (s * 64) 64) ≤ 64
  strip_few = from_few (marked strips) 64 (s * 64)

-- s strips are counted: n of their squares have no mark
pub record Counting (strips : List ℕ) (area n s : ℕ) : Type 0 where
  pub count : n ≡ length (unmarked strips (s * 64))
  pub few : n ≤ s * 64
  pub near : s * 64 < area + 64

pub counting_none : (strips : List ℕ) (area : ℕ) → Counting strips area 0 0
unfolding unmarked free_from
counting_none strips area = record { count = refl; few = omega arith; near = omega arith }

-- how many strips the area reaches into
abbrev pub Reach : ℕ → ℕ → Type 0
Reach area last = (area ≤ last * 64) × (last * 64 < area + 64)

-- the strips that it reaches into are there
pub reach_long : (strips : List ℕ) (area last : ℕ) → Reach area last → Inside area strips → length (take last strips) ≡ last
reach_long strips area last q p = length-take-le last strips (omega (arith, q, p.area_max, p.size))

module _ (strips : List ℕ) (area last n s : ℕ) (v : Counting strips area n s) (q : Reach area last) (h : s < last) (r : ℕ)
    (e : r ≡ length (clear_from 0 (get_or (take last strips) s 0))) where
  strip_is : r ≡ length (clear_from 0 (get_or strips s 0))
  strip_is = e ∙ ap (λ (x : ℕ). length (clear_from 0 x)) (get_or-take last strips s 0 h)

  pub counting_next : Counting strips area (n + r) (s + 1)
  counting_next = record {
    count = omega (arith, v.count, strip_is, open_more strips s, strip_open strips s);
    few = omega (arith, v.few, strip_is, strip_open strips s, strip_few strips s);
    near = omega (arith, q);
  }

  pub counting_fits : area ≤ 1024 → Fits w64 (n + r)
  counting_fits m = omega (arith, v.few, q, strip_is, strip_open strips s, strip_few strips s)

-- where no square has a mark, all are counted
pub all_free : (used : ℕ → Bool) (n a : ℕ) → ((c : ℕ) → a ≤ c → c < a + n → used c ≡ false) → length (free_from used a n) ≡ n
unfolding free_from
all_free used zero a h = refl
all_free used (suc n) a h = rw (h a (omega arith) (omega arith)) (ap suc (all_free used n (suc a) (λ c l m. h c (omega arith) (omega arith))))

-- past the area stands no mark
past_all : (strips : List ℕ) (area m : ℕ) → Inside area strips → length (unmarked strips (area + m)) ≡ length (unmarked strips area) + m
unfolding unmarked
past_all strips area m p =
    ap length (from_split (marked strips) area m 0)
    ∙ length-append (free_from (marked strips) 0 area) (free_from (marked strips) (0 + area) m)
    ∙ ap (λ (k : ℕ). length (free_from (marked strips) 0 area) + k)
    (ap (λ (k : ℕ). length (free_from (marked strips) k m)) (zero-add area) ∙ all_free (marked strips) m area (λ c l _. p.past c l))

module _ (strips : List ℕ) (area last n s : ℕ) (v : Counting strips area n s) (a : area ≤ last * 64) (z : last ≡ s) (p : Inside area strips) where
  h : area ≤ s * 64
  h = rw (← z) a

  whole : n ≡ length (unmarked strips area) + (s * 64 - area)
  whole =
      let e : s * 64 ≡ area + (s * 64 - area) = omega arith in
      v.count ∙ ap (λ (k : ℕ). length (unmarked strips k)) e ∙ past_all strips area (s * 64 - area) p

  pub counting_over : last * 64 ≤ n + area
  counting_over = rw z (omega (arith, whole))

  pub counting_all : n + area - last * 64 ≡ length (unmarked strips area)
  counting_all = rw z (omega (arith, whole))

-- ---- a count a strip

-- s strips have their counts
pub record Tallying (strips : List ℕ) (area : ℕ) (tally : List ℕ) (s : ℕ) : Type 0 where
  pub long : length tally ≡ 16
  pub near : s * 64 < area + 64
  pub counts : (k : ℕ) → k < s → get_or tally k 0 ≡ length (free_from (marked strips) (k * 64) 64)

pub tally_blank : length {A = ℕ} (replicate 16 0) ≡ 16
tally_blank = length-replicate {A = ℕ} 16 0

pub tally_none : (strips : List ℕ) (area : ℕ) (tally : List ℕ) → length tally ≡ 16 → Tallying strips area tally 0
tally_none strips area tally e = record { long = e; near = omega arith; counts = λ k l. absurd (lt_irrefl 0 (omega arith)) }

module _ (strips : List ℕ) (area : ℕ) (tally : List ℕ) (s : ℕ) (v : Tallying strips area tally s) where
  module _ (r : ℕ) (e : r ≡ length (clear_from 0 (get_or strips s 0))) where
    pub tally_fits : Fits w8 r
    tally_fits = omega (arith, strip_open strips s, strip_few strips s)

    pub tally_next : area ≤ 1024 → (last : ℕ) → Reach area last → s < last → Tallying strips area (set tally s r) (s + 1)
    tally_next m last z h = record {
      long = simp length-set v.long;
      near = omega (arith, z);
      counts = λ k l. elim (compared k s) [
        | same q t ↦ rw (q, get_or-set_same tally s r 0 (omega (arith, v.long))) (e ∙ sym (strip_open strips s))
        | other d t ↦ rw (get_or-set_other tally s k r 0 d) (v.counts k (lt_of_le-ne (omega arith) d))
      ];
    }

  pub tally_all : (last : ℕ) → Reach area last → last ≤ s → area ≤ 1024 → length strips ≡ 16 → Counted area strips tally
  tally_all last z h m e = record { area_max = m; size = e; long = v.long; counts = λ k l. v.counts k (omega (arith, z)) }
