-- Within a strip, run by run: the squares that have a mark are passed, then those that have none are counted. Assumes nothing.
use mathlib.Core.Path.{◌≡◌, refl, sym, ap, ap₂, ◌∙◌}
use mathlib.Core.Bool.{Bool, true, false}
use mathlib.Core.List.{List, [], ◌++◌}
use Prim.Native.Nat.{ℕ, zero, suc, ◌+◌, ◌-◌, ◌/◌, ◌%◌, ◌^◌, ◌<◌, ◌≤◌}
use native.Mathlib.Nat.{add-zero, le_trans, lt_irrefl, le_dest, div-one, zero-lt-suc}
use native.Mathlib.Omega.{arith}
use mir.Syntax.{w64}
use mir.Val.{Fits}
use lib.Count.{count_trailing_zeros}
use lib.Dec.{eqb}
use lib.ListN.{length, get_or, length-append}
use lib.Pow.{pow_mono, shr-shr, shr_lt}
use lib.Seq.{get_or-append-add}
use Rattle.lists.proofs.Tests.{compared, same, other, ordered, less, more}
use Rattle.lists.proofs.Members.{clash}
use Rattle.boards.specs.Free.{free_from}
use Rattle.boards.proofs.Free.{from_few, from_split}
use Rattle.strips.specs.Marks.{bit_of, clear_from, Among}
use Rattle.strips.proofs.Bits.{bit_low, bit_up, low_lt, not_one, odd_next, even_next, clear_room}
use Rattle.strips.proofs.Counting.{all_free, run_same}

-- ---- the zeros and the ones that a word ends with

trailing_clear : (n x b : ℕ) → b < count_trailing_zeros n x → bit_of x b ≡ false
unfolding count_trailing_zeros
trailing_clear zero x b l = absurd (lt_irrefl 0 (omega arith))
trailing_clear (suc n) x zero l = elim (compared (x % 2) 1) [
  | same e t ↦ absurd (lt_irrefl 0 (rw e at l))
  | other d t ↦ bit_low x ∙ t
]
trailing_clear (suc n) x (suc b) l = elim (compared (x % 2) 1) [
  | same e t ↦ let r : suc b < 0 = rw e at l in absurd (lt_irrefl 0 (omega arith))
  | other d t ↦
      let r : suc b < suc (count_trailing_zeros n (x / 2)) = rw (not_one (x % 2) (low_lt x) d) at l in
      bit_up x b ∙ trailing_clear n (x / 2) b (omega arith)
]

trailing_some : (n x : ℕ) → bit_of x 0 ≡ false → 0 < count_trailing_zeros (suc n) x
unfolding count_trailing_zeros
trailing_some n x u = elim (compared (x % 2) 1) [
  | same e t ↦ absurd (clash (bit_low x ∙ t) u)
  | other d t ↦ rw (not_one (x % 2) (low_lt x) d) (zero-lt-suc (count_trailing_zeros n (x / 2)))
]

-- the ones are the zeros of the next number
trailing_set : (n x b : ℕ) → b < count_trailing_zeros n (x + 1) → bit_of x b ≡ true
unfolding count_trailing_zeros
trailing_set zero x b l = absurd (lt_irrefl 0 (omega arith))
trailing_set (suc n) x zero l = elim (compared (x % 2) 1) [
  | same e t ↦ bit_low x ∙ t
  | other d t ↦ absurd (lt_irrefl 0 (rw (even_next x (not_one (x % 2) (low_lt x) d)).1 at l))
]
trailing_set (suc n) x (suc b) l = elim (compared (x % 2) 1) [
  | same e t ↦
      let o = odd_next x e in
      let r : suc b < suc (count_trailing_zeros n (x / 2 + 1)) = rw (o.1, o.0) at l in
      bit_up x b ∙ trailing_set n (x / 2) b (omega arith)
  | other d t ↦ let r : suc b < 0 = rw (even_next x (not_one (x % 2) (low_lt x) d)).1 at l in absurd (lt_irrefl 0 (omega arith))
]

-- and the bit after them is clear
trailing_end : (n x : ℕ) → count_trailing_zeros n (x + 1) < n → bit_of x (count_trailing_zeros n (x + 1)) ≡ false
unfolding count_trailing_zeros
trailing_end zero x l = absurd (lt_irrefl 0 l)
trailing_end (suc n) x l = elim (compared (x % 2) 1) [
  | same e t ↦
      let o = odd_next x e in
      let r : suc (count_trailing_zeros n (x / 2 + 1)) < suc n = rw (o.1, o.0) at l in
      rw (o.1, o.0) (bit_up x (count_trailing_zeros n (x / 2 + 1)) ∙ trailing_end n (x / 2) (omega arith))
  | other d t ↦ rw (even_next x (not_one (x % 2) (low_lt x) d)).1 (bit_low x ∙ t)
]

-- a word shifted
bit_on : (x j b : ℕ) → bit_of x (j + b) ≡ bit_of (x / 2 ^ j) b
unfolding bit_of
bit_on x j b = ap (λ (k : ℕ). eqb (k % 2) 1) (sym (shr-shr x j b))

-- ---- squares that all have a mark, and squares that all have none

all_used : (used : ℕ → Bool) (n a : ℕ) → ((c : ℕ) → a ≤ c → c < a + n → used c ≡ true) → free_from used a n ≡ []
unfolding free_from
all_used used zero a h = refl
all_used used (suc n) a h = rw (h a (omega arith) (omega arith)) (all_used used n (suc a) (λ c l m. h c (omega arith) (omega arith)))

free_at : (used : ℕ → Bool) (n a i : ℕ) → ((c : ℕ) → a ≤ c → c < a + n → used c ≡ false) → i < n → get_or (free_from used a n) i 0 ≡ a + i
unfolding free_from
free_at used zero a i h l = absurd (lt_irrefl 0 (omega arith))
free_at used (suc n) a zero h l = rw (h a (omega arith) (omega arith)) (omega arith)
free_at used (suc n) a (suc i) h l =
    rw (h a (omega arith) (omega arith)) (free_at used n (suc a) i (λ c p q. h c (omega arith) (omega arith)) (omega arith) ∙ omega arith)

-- ---- the search, come to square `at` of the strip: the word's bits from there on, and how many clear squares are still to be passed

abbrev pub clear_on : ℕ → ℕ → ℕ → List ℕ
clear_on strip first at = free_from (λ c. bit_of strip (c - first)) at (first + 64 - at)

pub record Passing (strip first i rest at left : ℕ) : Type 0 where
  pub held : Fits w64 strip
  pub low : first < 1024
  pub begun : first ≤ at
  pub word : rest ≡ strip / 2 ^ (at - first)
  pub room : left < length (clear_on strip first at)
  pub goal : get_or (clear_on strip first at) left 0 ≡ get_or (clear_from first strip) i 0

pub passing_none : (strip first i : ℕ) → Fits w64 strip → Among strip first i → Passing strip first i strip first i
unfolding clear_from
passing_none strip first i f h =
    let e : first + 64 - first ≡ 64 = omega arith in
    let z : first - first ≡ 0 = omega arith in
    record { held = f; low = h.low; begun = omega arith; word = rw z (sym (div-one strip)); room = rw e h.room; goal = rw e }

module _ (strip first i rest at left : ℕ) (v : Passing strip first i rest at left) where
  abbrev used : ℕ → Bool
  used c = bit_of strip (c - first)

  abbrev n : ℕ
  n = first + 64 - at

  few : left < n
  few = omega (arith, v.room, from_few used n at)

  bits : (b : ℕ) → used (at + b) ≡ bit_of rest b
  bits b =
      let e : at + b - first ≡ at - first + b = omega (arith, v.begun) in
      ap (bit_of strip) e ∙ bit_on strip (at - first) b ∙ sym (ap (λ (k : ℕ). bit_of k b) v.word)

  -- what all bits below one say, the squares say
  run : (t : Bool) (m : ℕ) → ((b : ℕ) → b < m → bit_of rest b ≡ t) → (c : ℕ) → at ≤ c → c < at + m → used c ≡ t
  run t m h c l k = let (b, e) = le_dest l in ap used (sym e) ∙ bits b ∙ h b (omega arith)

  shifted : (m : ℕ) → rest / 2 ^ m ≡ strip / 2 ^ (at + m - first)
  shifted m =
      let e : at - first + m ≡ at + m - first = omega (arith, v.begun) in
      ap (λ (k : ℕ). k / 2 ^ m) v.word ∙ shr-shr strip (at - first) m ∙ ap (λ (k : ℕ). strip / 2 ^ k) e

  cut : (m : ℕ) → m ≤ n → clear_on strip first at ≡ free_from used at m ++ clear_on strip first (at + m)
  cut m l =
      let e : n ≡ m + (first + 64 - (at + m)) = omega arith in
      ap (free_from used at) e ∙ from_split used m (first + 64 - (at + m)) at

  next_word : rest + 1 < 2 ^ 64
  next_word =
      let f = few in
      let e : 64 ≡ n + (at - first) = omega (arith, v.begun) in
      let l : strip < 2 ^ (n + (at - first)) = rw (sym e) v.held.fits in
      let b : rest < 2 ^ n = rw v.word (shr_lt n (at - first) l) in
      le_trans (clear_room used n at rest (λ b _. bits b) b (omega (arith, v.room))) (pow_mono (let m : n ≤ 64 = omega (arith, v.begun) in m))

  pub passing_fits : Fits w64 (rest + 1)
  passing_fits = record { fits = next_word }

  -- the squares that have a mark
  abbrev marks : ℕ
  marks = count_trailing_zeros 64 (rest + 1)

  marks_few : marks < n
  marks_few = elim (ordered marks n) [
    | less l t ↦ l
    | more l t ↦
        let e = ap length (all_used used n at (run true n (λ b k. trailing_set 64 rest b (omega arith)))) in
        absurd (lt_irrefl 0 (omega (arith, v.room, e)))
  ]

  pub marks_low : count_trailing_zeros 64 (rest + 1) < 64
  marks_low = omega (arith, marks_few, v.begun)

  marks_passed : Passing strip first i (rest / 2 ^ marks) (at + marks) left
  marks_passed =
      let m = marks_few in
      let e : clear_on strip first at ≡ clear_on strip first (at + marks) =
      cut marks (omega arith) ∙ ap (λ (l : List ℕ). l ++ clear_on strip first (at + marks)) (all_used used marks at (run true marks (trailing_set 64 rest))) in
      record {
        held = v.held;
        low = v.low;
        begun = omega (arith, v.begun);
        word = shifted marks;
        room = rw (sym e) v.room;
        goal = rw (sym e) v.goal;
      }

  clear_next : 0 < count_trailing_zeros 64 (rest / 2 ^ marks)
  clear_next =
      let m = marks_few in
      trailing_some 63 (rest / 2 ^ marks)
      (sym (bit_on rest marks 0) ∙ ap (bit_of rest) (add-zero marks) ∙ trailing_end 64 rest (omega (arith, v.begun)))

  -- the squares that have none
  abbrev clear : ℕ
  clear = count_trailing_zeros 64 rest

  clear_run : (m : ℕ) → m ≤ clear → (c : ℕ) → at ≤ c → c < at + m → used c ≡ false
  clear_run m l = run false m (λ b k. trailing_clear 64 rest b (omega arith))

  found_here : left < clear → at + left ≡ get_or (clear_from first strip) i 0
  found_here h =
      let r = clear_run (suc left) (omega arith) in
      let l = all_free used (suc left) at r in
      sym (free_at used (suc left) at left r (omega arith)) ∙ run_same used at (suc left) n left (omega (arith, l)) v.room ∙ v.goal

  clear_passed : clear ≤ left → Passing strip first i (rest / 2 ^ clear) (at + clear) (left - clear)
  clear_passed h =
      let f = few in
      let ys = clear_on strip first (at + clear) in
      let e = cut clear (omega arith) in
      let l = all_free used clear at (clear_run clear (omega arith)) in
      let j : left ≡ length (free_from used at clear) + (left - clear) = omega (arith, l) in
      record {
        held = v.held;
        low = v.low;
        begun = omega (arith, v.begun);
        word = shifted clear;
        room = omega (arith, v.room, ap length e, length-append (free_from used at clear) ys, l);
        goal =
            sym (get_or-append-add (free_from used at clear) ys (left - clear) 0)
            ∙ sym (ap₂ (λ (k : List ℕ) (m : ℕ). get_or k m 0) e j)
            ∙ v.goal;
      }

-- ---- a turn of the loop: marks, then clear squares

module _ (strip first i rest at left : ℕ) (v : Passing strip first i rest at left) where
  abbrev p : Passing strip first i (rest / 2 ^ count_trailing_zeros 64 (rest + 1)) (at + count_trailing_zeros 64 (rest + 1)) left
  p = marks_passed strip first i rest at left v

  abbrev o : ℕ
  o = count_trailing_zeros 64 (rest + 1)

  abbrev z : ℕ
  z = count_trailing_zeros 64 (rest / 2 ^ count_trailing_zeros 64 (rest + 1))

  within : left < first + 64 - (at + o)
  within = few strip first i (rest / 2 ^ o) (at + o) left p

  pub found : left < count_trailing_zeros 64 (rest / 2 ^ count_trailing_zeros 64 (rest + 1)) → at + count_trailing_zeros 64 (rest + 1) + left ≡ get_or (clear_from first strip) i 0
  found = found_here strip first i (rest / 2 ^ o) (at + o) left p

  module _ (h : count_trailing_zeros 64 (rest / 2 ^ count_trailing_zeros 64 (rest + 1)) ≤ left) where
    pub clear_low : count_trailing_zeros 64 (rest / 2 ^ count_trailing_zeros 64 (rest + 1)) < 64
    clear_low = omega (arith, within, v.begun)

    pub passing_next : Passing strip first i (rest / 2 ^ count_trailing_zeros 64 (rest + 1) / 2 ^ count_trailing_zeros 64 (rest / 2 ^ count_trailing_zeros 64 (rest + 1)))
        (at + count_trailing_zeros 64 (rest + 1) + count_trailing_zeros 64 (rest / 2 ^ count_trailing_zeros 64 (rest + 1)))
        (left - count_trailing_zeros 64 (rest / 2 ^ count_trailing_zeros 64 (rest + 1)))
    passing_next = clear_passed strip first i (rest / 2 ^ o) (at + o) left p h

    pub passing_less : left - count_trailing_zeros 64 (rest / 2 ^ count_trailing_zeros 64 (rest + 1)) < left
    passing_less = omega (arith, clear_next strip first i rest at left v)

  pub passing_end : first + 64 ≤ at → 0 ≡ get_or (clear_from first strip) i 0
  passing_end h = absurd (lt_irrefl 0 (omega (arith, few strip first i rest at left v)))
