-- What the searches go by: from strip to strip, below a square; and what a square taken leaves. Assumes nothing.
use mathlib.Core.Path.{◌≡◌, refl, sym, ap, ap₂, ◌∙◌}
use mathlib.Core.Bool.{Bool, true, false, ◌||◌}
use mathlib.Core.List.{List, ◌++◌}
use Prim.Native.Nat.{ℕ, suc, ◌+◌, ◌-◌, ◌*◌, ◌/◌, ◌%◌, ◌^◌, ◌<◌, ◌≤◌}
use native.Mathlib.Nat.{one-mul, zero-add, lt_irrefl, le_dest, mod-lt}
use native.Mathlib.Omega.{arith}
use mir.Syntax.{w64}
use mir.Val.{Fits}
use lib.Count.{ones, ones-le}
use lib.Dec.{eqb}
use lib.ListN.{length, get_or, set, take, length-append, length-set}
use lib.Pow.{pow_pos, shl_exact}
use lib.Seq.{get_or-append-add, get_or-set_same, get_or-set_other, get_or-take, length-take-le}
use borrow.Author.Tests.{ne_eqb}
use Rattle.lists.specs.Lists.{member, without, place}
use Rattle.lists.proofs.Tests.{compared, same, other, ordered, less, more}
use Rattle.lists.proofs.Lists.{member_at}
use Rattle.lists.proofs.Members.{clash, fails, length_without}
use Rattle.boards.specs.Free.{free_from}
use Rattle.boards.proofs.Free.{free_ext, from_few, of_from, in_from, from_without, from_split, place_scan}
use Rattle.boards.proofs.Squares.{cell_is}
use Rattle.strips.specs.Marks.{marked, unmarked, clear_from, Among, Marked, Counted, Numbered, Free, Took}
use Rattle.strips.proofs.Strips.{part_open, strip_clear}
use Rattle.strips.proofs.Counting.{run_same, run_more, open_more}

-- ---- from strip to strip: l more are to be passed from strip s on

pub record Scanning (strips : List ℕ) (area i l s : ℕ) : Type 0 where
  pub room : l < length (free_from (marked strips) (s * 64) (area - s * 64))
  pub rest : get_or (free_from (marked strips) (s * 64) (area - s * 64)) l 0 ≡ get_or (unmarked strips area) i 0

pub scan_none : (strips : List ℕ) (area i : ℕ) → i < length (unmarked strips area) → Scanning strips area i i 0
unfolding unmarked
scan_none strips area i h =
    let e : area - 0 ≡ area = omega arith in
    record { room = rw e h; rest = rw e }

module _ (strips : List ℕ) (area i l s : ℕ) (v : Scanning strips area i l s) (tally : List ℕ) (p : Counted area strips tally) where
  -- what is still to be passed lies in the area
  h : s * 64 < area
  h = let f = from_few (marked strips) (area - s * 64) (s * 64) in omega (arith, v.room)

  pub scan_end : length tally ≤ s → 0 ≡ get_or (unmarked strips area) i 0
  scan_end g = absurd (lt_irrefl 0 (omega (arith, h, p.long, p.area_max)))

  -- the strip's count
  module _ (here : ℕ) (z : here ≡ get_or tally s 0) where
    count : here ≡ length (free_from (marked strips) (s * 64) 64)
    count = z ∙ p.counts s h

    pub scan_room : l < here → Among (get_or strips s 0) (s * 64) l
    scan_room g = record { room = omega (arith, count, ap length (strip_clear strips s)); low = omega (arith, h, p.area_max) }

    pub scan_hit : (r : ℕ) → l < here → r ≡ get_or (clear_from (s * 64) (get_or strips s 0)) l 0 → r ≡ get_or (unmarked strips area) i 0
    scan_hit r g e =
        e ∙ sym (ap (λ (k : List ℕ). get_or k l 0) (strip_clear strips s))
        ∙ run_same (marked strips) (s * 64) 64 (area - s * 64) l (omega (arith, count)) v.room
        ∙ v.rest

    module _ (g : here ≤ l) where
      -- the area goes on past this strip
      on : 64 ≤ area - s * 64
      on = elim (ordered (area - s * 64) 64) [
        | less q t ↦
            let (d, e) = le_dest q in
            let e' : 64 ≡ area - s * 64 + suc d = omega arith in
            let m = run_more (marked strips) (s * 64) (area - s * 64) (suc d) in
            let k = ap (λ (j : ℕ). length (free_from (marked strips) (s * 64) j)) e' in
            absurd (lt_irrefl l (omega (arith, v.room, count, m, k)))
        | more q t ↦ q
      ]

      abbrev rest : List ℕ
      rest = free_from (marked strips) ((s + 1) * 64) (area - (s + 1) * 64)

      parts : free_from (marked strips) (s * 64) (area - s * 64) ≡ free_from (marked strips) (s * 64) 64 ++ rest
      parts =
          let o = on in
          let e : area - s * 64 ≡ 64 + (area - (s + 1) * 64) = omega arith in
          let q : s * 64 + 64 ≡ (s + 1) * 64 = omega arith in
          ap (free_from (marked strips) (s * 64)) e
          ∙ from_split (marked strips) 64 (area - (s + 1) * 64) (s * 64)
          ∙ ap (λ (k : ℕ). free_from (marked strips) (s * 64) 64 ++ free_from (marked strips) k (area - (s + 1) * 64)) q

      pub scan_on : Scanning strips area i (l - here) (s + 1)
      scan_on =
          let n = length-append (free_from (marked strips) (s * 64) 64) rest in
          let j : l ≡ length (free_from (marked strips) (s * 64) 64) + (l - here) = omega (arith, count) in
          record {
            room = omega (arith, v.room, ap length parts, n, count);
            rest =
                sym (get_or-append-add (free_from (marked strips) (s * 64) 64) rest (l - here) 0)
                ∙ sym (ap₂ (λ (k : List ℕ) (m : ℕ). get_or k m 0) parts j)
                ∙ v.rest;
          }

-- ---- below a square

-- s strips before square c are counted: n of their squares have no mark
pub record Summing (strips : List ℕ) (c n s : ℕ) : Type 0 where
  pub count : n ≡ length (unmarked strips (s * 64))
  pub few : n ≤ s * 64
  pub within : s ≤ c / 64

pub summing_none : (strips : List ℕ) (c : ℕ) → Summing strips c 0 0
unfolding unmarked free_from
summing_none strips c = record { count = refl; few = omega arith; within = omega arith }

-- the strips before a square are there
pub strips_long : (strips tally : List ℕ) (area c : ℕ) → Counted area strips tally → c < area → length (take (c / 64) tally) ≡ c / 64
strips_long strips tally area c p h = length-take-le (c / 64) tally (omega (arith, p.long, p.area_max, cell_is 64 c))

module _ (strips : List ℕ) (area : ℕ) (tally : List ℕ) (c n s : ℕ) (v : Summing strips c n s) (p : Counted area strips tally) (h : c < area) (l : s < c / 64)
    (here : ℕ) (z : here ≡ get_or (take (c / 64) tally) s 0) where
  strip_here : here ≡ length (free_from (marked strips) (s * 64) 64)
  strip_here = z ∙ get_or-take (c / 64) tally s 0 l ∙ p.counts s (omega (arith, cell_is 64 c))

  pub summing_next : Summing strips c (n + here) (s + 1)
  summing_next = record {
    count = omega (arith, v.count, open_more strips s, strip_here);
    few = omega (arith, v.few, strip_here, from_few (marked strips) 64 (s * 64));
    within = omega arith;
  }

  pub summing_fits : Fits w64 (n + here)
  summing_fits = omega (arith, v.few, strip_here, from_few (marked strips) 64 (s * 64), cell_is 64 c, p.area_max)

sixty_four : 0 < 64
sixty_four = omega arith

-- one bit, as the code makes it
bit_is : (b : ℕ) → b < 64 → 1 * 2 ^ b % 2 ^ 64 ≡ 2 ^ b
bit_is b l = shl_exact 1 b 64 (let k : 1 < 2 ^ 1 = omega arith in k) (omega arith) ∙ one-mul (2 ^ b)

module _ (strips : List ℕ) (c : ℕ) where
  abbrev b : ℕ
  b = c % 64

  bit_of_lem : 1 * 2 ^ b % 2 ^ 64 ≡ 2 ^ b
  bit_of_lem = bit_is b (mod-lt c sixty_four)

  part_few : ones (get_or strips (c / 64) 0 % 2 ^ b) ≤ b
  part_few = ones-le b (get_or strips (c / 64) 0 % 2 ^ b) (mod-lt (get_or strips (c / 64) 0) (pow_pos b))

  module _ (n s : ℕ) (v : Summing strips c n s) where
    pub part_less : ones (get_or strips (c / 64) 0 % (1 * 2 ^ (c % 64) % 2 ^ 64)) ≤ n + c % 64
    part_less = rw bit_of_lem (omega (arith, part_few))

    pub summing_all : c / 64 ≤ s → n + c % 64 - ones (get_or strips (c / 64) 0 % (1 * 2 ^ (c % 64) % 2 ^ 64)) ≡ length (unmarked strips c)
    unfolding unmarked
    summing_all h =
        let e : s ≡ c / 64 = omega (arith, v.within) in
        let k = v.count ∙ ap (λ (j : ℕ). length (unmarked strips (j * 64))) e in
        let p = part_open strips (c / 64) b (let m = mod-lt c sixty_four in omega arith) in
        let whole =
        ap (λ (j : ℕ). length (free_from (marked strips) 0 j)) (sym (cell_is 64 c))
        ∙ ap length (from_split (marked strips) (c / 64 * 64) b 0)
        ∙ length-append (free_from (marked strips) 0 (c / 64 * 64)) (free_from (marked strips) (0 + c / 64 * 64) b)
        ∙ ap (λ (j : ℕ). length (free_from (marked strips) 0 (c / 64 * 64)) + length (free_from (marked strips) j b)) (zero-add (c / 64 * 64)) in
        rw bit_of_lem (omega (arith, k, p, whole))

-- ---- a square taken

module _ (old new : List ℕ) (x : ℕ) (m : Marked x old new) where
  -- it is no longer among those without a mark
  pub unmarked_less : (n : ℕ) → unmarked new n ≡ without x (unmarked old n)
  unfolding unmarked
  unmarked_less n = free_ext (marked new) (λ c. eqb c x || marked old c) n 0 (λ c _ _. m.shows c) ∙ from_without (marked old) x n 0

  run_less : (n a : ℕ) → free_from (marked new) a n ≡ without x (free_from (marked old) a n)
  run_less n a = free_ext (marked new) (λ c. eqb c x || marked old c) n a (λ c _ _. m.shows c) ∙ from_without (marked old) x n a

-- the strip that a square stands in
strip_of : (x s : ℕ) → s * 64 ≤ x → x < s * 64 + 64 → s ≡ x / 64
strip_of x s l h = let e = cell_is 64 x in let m = mod-lt x sixty_four in omega arith

module _ (area : ℕ) (old tally : List ℕ) (x : ℕ) (p : Counted area old tally) (h : x < area) (u : marked old x ≡ false) where
  first_in : x / 64 * 64 ≤ x
  first_in = omega (arith, cell_is 64 x)

  last_in : x < x / 64 * 64 + 64
  last_in = omega (arith, cell_is 64 x, mod-lt x sixty_four)

  is_open : member x (free_from (marked old) (x / 64 * 64) 64) ≡ true
  is_open = in_from (marked old) 64 (x / 64 * 64) x u first_in last_in

  counted_here : get_or tally (x / 64) 0 ≡ length (free_from (marked old) (x / 64 * 64) 64)
  counted_here = p.counts (x / 64) (omega (arith, first_in))

  pub take_some : 1 ≤ get_or tally (x / 64) 0
  take_some = omega (arith, counted_here, length_without x (free_from (marked old) (x / 64 * 64) 64) is_open)

  module _ (new : List ℕ) (m : Marked x old new) where
    counts_after : (s : ℕ) → s * 64 < area → get_or (set tally (x / 64) (get_or tally (x / 64) 0 - 1)) s 0 ≡ length (free_from (marked new) (s * 64) 64)
    counts_after s l = elim (compared s (x / 64)) [
      | same e t ↦
          rw (e, get_or-set_same tally (x / 64) (get_or tally (x / 64) 0 - 1) 0 (omega (arith, p.long, p.area_max, cell_is 64 x)), run_less old new x m 64 (x / 64 * 64))
          (omega (arith, counted_here, length_without x (free_from (marked old) (x / 64 * 64) 64) is_open))
      | other d t ↦
          rw (get_or-set_other tally (x / 64) s (get_or tally (x / 64) 0 - 1) 0 d)
          (p.counts s l
          ∙ ap length (sym (free_ext (marked new) (marked old) 64 (s * 64) (λ c g k.
          m.shows c ∙ ap (λ (t : Bool). t || marked old c) (ne_eqb c x (λ q. d (strip_of x s (omega arith) (omega arith))))))))
    ]

    pub took : Took area x old new (set tally (x / 64) (get_or tally (x / 64) 0 - 1))
    took = record {
      marks = m;
      counted = record { area_max = p.area_max; size = m.size; long = simp length-set p.long; counts = counts_after };
    }

-- ---- a square and its place among the free ones

module _ (strips : List ℕ) (area : ℕ) where
  pub unmarked_few : length (unmarked strips area) ≤ area
  unfolding unmarked
  unmarked_few = from_few (marked strips) area 0

  -- the i-th free square is one
  pub numbered_free : (tally : List ℕ) (i x : ℕ) → Numbered area strips tally i → x ≡ get_or (unmarked strips area) i 0 → Free area strips tally x
  unfolding unmarked
  numbered_free tally i x q e =
      let m : member x (unmarked strips area) ≡ true = rw e (member_at (unmarked strips area) i q.room) in
      let f = of_from (marked strips) area 0 x m in
      record { counted = q.counted; inside = omega (arith, f.1); clear = f.0 }

  module _ (c : ℕ) where
    pub off_area : area ≤ c → member c (unmarked strips area) ≡ false
    unfolding unmarked
    off_area h = fails (member c (unmarked strips area)) (λ m. let r = (of_from (marked strips) area 0 c m).1 in lt_irrefl c (omega arith))

    pub taken_square : marked strips c ≡ true → member c (unmarked strips area) ≡ false
    unfolding unmarked
    taken_square u = fails (member c (unmarked strips area)) (λ m. clash u (of_from (marked strips) area 0 c m).0)

    module _ (h : c < area) (u : marked strips c ≡ false) where
      pub open_member : member c (unmarked strips area) ≡ true
      unfolding unmarked
      open_member = in_from (marked strips) area 0 c u (omega arith) (omega arith)

      pub square_place : place c (unmarked strips area) ≡ length (unmarked strips c)
      unfolding unmarked
      square_place = place_scan (marked strips) area c h u
