-- The strips as one board: what one more mark changes, what a list of marks leaves, and the squares of a strip. Assumes nothing.
use mathlib.Core.Path.{◌≡◌, refl, sym, ap, ap₂, ◌∙◌, subst}
use mathlib.Core.Bool.{Bool, true, false, ◌||◌, or-false}
use mathlib.Core.List.{List, [], ◌∷◌, ◌++◌}
use Prim.Native.Nat.{ℕ, zero, suc, ◌+◌, ◌-◌, ◌*◌, ◌/◌, ◌%◌, ◌^◌, ◌<◌, ◌≤◌}
use native.Mathlib.Nat.{div-mul-le_self, one-mul, div-lt_iff_lt-mul, mod-lt, mod-eq_of_lt, lt_irrefl, zero-div}
use native.Mathlib.Omega.{arith}
use mir.Syntax.{w64}
use mir.Val.{Fits}
use Rattle.std.specs.Simd.{first_chunks}
use lib.Bits.{bit_or}
use lib.Count.{ones}
use lib.Dec.{eqb}
use lib.ListN.{length, get_or, set, take, drop, replicate, length-set, length-replicate, take-append-drop}
use lib.Pow.{shl_exact}
use lib.Seq.{get_or-set_same, get_or-set_other, take-suc, take_all, take-add, drop-drop}
use native.Mathlib.Numerals.{add-one}
use borrow.Author.Tests.{eq-eqb, ne_eqb}
use Rattle.lists.specs.Lists.{member}
use Rattle.lists.proofs.Tests.{compared, same, other}
use Rattle.lists.proofs.Lists.{member_append, part_long}
use Rattle.boards.specs.Boards.{Under}
use Rattle.boards.specs.Free.{free_from}
use Rattle.boards.proofs.Boards.{part_under, rest_under}
use Rattle.boards.proofs.Free.{free_ext}
use Rattle.boards.proofs.Squares.{cell_is, row_of, col_of_lem}
use Rattle.strips.specs.Marks.{bit_of, marked, unmarked, clear_from, Blank, Marked, Adds, Inside}
use Rattle.strips.proofs.Bits.{Shows, more_bit, same_word, count_clear}

-- ---- the squares of a strip

pub clear_shows : (a x : ℕ) → Shows (λ c. bit_of x (c - a)) a 64 x
clear_shows a x b l = ap (bit_of x) (let e : a + b - a ≡ b = omega arith in e)

clear_count : (a x : ℕ) → length (clear_from a x) + ones (x % 2 ^ 64) ≡ 64
unfolding clear_from
clear_count a x = count_clear (λ c. bit_of x (c - a)) 64 a x (clear_shows a x)

-- a word has at most 64 bits set, and the others are clear
module _ (x : ℕ) (h : Fits w64 x) where
  pub clear_many : 64 - ones x ≡ length (clear_from 0 x)
  clear_many =
      let e : ones (x % 2 ^ 64) ≡ ones x = ap ones (mod-eq_of_lt h.fits) in
      omega (arith, e, clear_count 0 x)

module _ (strips : List ℕ) (s : ℕ) where
  strip_bit : (b : ℕ) → b < 64 → marked strips (s * 64 + b) ≡ bit_of (get_or strips s 0) b
  unfolding marked
  strip_bit b l = ap₂ (λ (k j : ℕ). bit_of (get_or strips k 0) j) (row_of 64 s b l) (col_of_lem 64 s b l)

  strip_shows : (n : ℕ) → n ≤ 64 → Shows (marked strips) (s * 64) n (get_or strips s 0)
  strip_shows n m b l = strip_bit b (omega arith)

  -- how many of its first n have no mark
  pub part_open : (n : ℕ) → n ≤ 64 → length (free_from (marked strips) (s * 64) n) + ones (get_or strips s 0 % 2 ^ n) ≡ n
  part_open n m = count_clear (marked strips) n (s * 64) (get_or strips s 0) (strip_shows n m)

  pub strip_open : length (free_from (marked strips) (s * 64) 64) ≡ length (clear_from 0 (get_or strips s 0))
  strip_open = omega (arith, part_open 64 (omega arith), clear_count 0 (get_or strips s 0))

  pub strip_clear : free_from (marked strips) (s * 64) 64 ≡ clear_from (s * 64) (get_or strips s 0)
  unfolding clear_from
  strip_clear =
      same_word (marked strips) (λ c. bit_of (get_or strips s 0) (c - s * 64)) (s * 64) 64 (get_or strips s 0) (strip_shows 64 (omega arith))
      (clear_shows (s * 64) (get_or strips s 0))

-- what a test of the bit says
pub marked_is : (strips : List ℕ) (c : ℕ) → eqb (get_or strips (c / 64) 0 / 2 ^ (c % 64) % 2) 1 ≡ marked strips c
unfolding marked bit_of
marked_is strips c = refl

-- ---- one more mark

module _ (strips : List ℕ) (x : ℕ) (size : length strips ≡ 16) (h : x < 1024) where
  strip_in : x / 64 < length strips
  strip_in = rw size ((div-lt_iff_lt-mul (let p : 0 < 64 = omega arith in p)).1 h)

  abbrev after : List ℕ
  after = set strips (x / 64) (bit_or (get_or strips (x / 64) 0) (2 ^ (x % 64)))

  -- two squares of a strip are the same if their bits are
  bit_same : (c : ℕ) → c / 64 ≡ x / 64 → eqb (c % 64) (x % 64) ≡ eqb c x
  bit_same c e = elim (compared c x) [
    | same q t ↦ rw t (eq-eqb (c % 64) (x % 64) (ap (λ (k : ℕ). k % 64) q))
    | other d t ↦ rw t (ne_eqb (c % 64) (x % 64) (λ q. d (sym (cell_is 64 c) ∙ ap₂ (λ (k j : ℕ). k * 64 + j) e q ∙ cell_is 64 x)))
  ]

  shown : (c : ℕ) → marked after c ≡ (eqb c x || marked strips c)
  unfolding marked
  shown c = elim (compared (c / 64) (x / 64)) [
    | same e t ↦
        rw (e, get_or-set_same strips (x / 64) (bit_or (get_or strips (x / 64) 0) (2 ^ (x % 64))) 0 strip_in)
        (more_bit (get_or strips (x / 64) 0) (x % 64) (c % 64) ∙ ap (λ (t : Bool). t || bit_of (get_or strips (x / 64) 0) (c % 64)) (bit_same c e))
    | other d t ↦
        rw (
          ne_eqb c x (λ q. d (ap (λ (k : ℕ). k / 64) q)),
          get_or-set_other strips (x / 64) (c / 64) (bit_or (get_or strips (x / 64) 0) (2 ^ (x % 64))) 0 d,
        )
  ]

  bit_is : 1 * 2 ^ (x % 64) % 2 ^ 64 ≡ 2 ^ (x % 64)
  bit_is = shl_exact 1 (x % 64) 64 (let l : 1 < 2 ^ 1 = omega arith in l) (omega (arith, mod-lt x (let p : 0 < 64 = omega arith in p))) ∙ one-mul (2 ^ (x % 64))

  pub marks : Marked x strips (set strips (x / 64) (bit_or (get_or strips (x / 64) 0) (1 * 2 ^ (x % 64) % 2 ^ 64)))
  marks = rw bit_is (record { size = simp length-set size; shows = shown })

-- ---- the marks of a list

or_turned : (x y z : Bool) → (x || (y || z)) ≡ ((y || x) || z)
or_turned true true z = refl
or_turned true false z = refl
or_turned false true z = refl
or_turned false false z = refl

-- two lists, one after the other
pub adds_both : (front back old mid new : List ℕ) → Adds front old mid → Adds back mid new → Adds (front ++ back) old new
adds_both front back old mid new a b = record {
  size = b.size;
  shows = λ c.
      b.shows c
      ∙ ap (λ (t : Bool). member c back || t) (a.shows c)
      ∙ or_turned (member c back) (member c front) (marked old c)
      ∙ sym (ap (λ (t : Bool). t || marked old c) (member_append c front back));
}

adds_one : (x : ℕ) (old new : List ℕ) → Marked x old new → Adds (x ∷ []) old new
unfolding member
adds_one x old new m = record { size = m.size; shows = λ c. m.shows c ∙ sym (ap (λ (t : Bool). t || marked old c) (or-false (eqb c x))) }

module _ (cells old : List ℕ) where
  pub adds_none : length old ≡ 16 → Adds (take 0 cells) old old
  unfolding member
  adds_none e = record { size = e; shows = λ c. refl }

  -- x is the cell that stands next
  pub adds_next : (i x : ℕ) (mid new : List ℕ) → i < length cells → x ≡ get_or cells i 0 → Adds (take i cells) old mid → Marked x mid new → Adds (take (i + 1) cells) old new
  adds_next i x mid new l e a m =
      rw (add-one i, take-suc cells i 0 l, ← e) (adds_both (take i cells) (x ∷ []) old mid new a (adds_one x mid new m))

  pub adds_whole : (i : ℕ) (new : List ℕ) → length cells ≤ i → Adds (take i cells) old new → Adds cells old new
  adds_whole i new l a = subst (λ (k : List ℕ). Adds k old new) (take_all i cells l) a

  module _ (n : length cells ≡ 4) (e : length old ≡ 16) (x y z w : ℕ) where
    pub four_marked : (s t u new : List ℕ) → x ≡ get_or cells 0 0 → y ≡ get_or cells 1 0 → z ≡ get_or cells 2 0 → w ≡ get_or cells 3 0
        → Marked x old s → Marked y s t → Marked z t u → Marked w u new → Adds cells old new
    four_marked s t u new a b c d p q r v =
        let f = adds_next 0 x old s (omega arith) a (adds_none e) p in
        let g = adds_next 1 y s t (omega arith) b f q in
        let h = adds_next 2 z t u (omega arith) c g r in
        adds_whole 4 new (omega arith) (adds_next 3 w u new (omega arith) d h v)

-- ---- the fours of a list

module _ (cells : List ℕ) where
  four_at : (k i : ℕ) (xs : List ℕ) → i < k → get_or (first_chunks 4 k xs) i [] ≡ take 4 (drop (i * 4) xs)
  four_at zero i xs l = absurd (lt_irrefl 0 (omega arith))
  four_at (suc k) zero xs l = refl
  four_at (suc k) (suc i) xs l =
      let e : 4 + i * 4 ≡ suc i * 4 = omega arith in
      four_at k i (drop 4 xs) (omega arith) ∙ ap (take 4) (drop-drop (i * 4) 4 xs ∙ ap (λ (j : ℕ). drop j xs) e)

  module _ (fours : List (List ℕ)) (f : fours ≡ first_chunks 4 (length cells / 4) cells) (i : ℕ) (h : i < length cells / 4) where
    four_is : get_or fours i [] ≡ take 4 (drop (i * 4) cells)
    four_is = ap (λ (l : List (List ℕ)). get_or l i []) f ∙ four_at (length cells / 4) i cells h

    pub four_in : Under 1024 cells → Under 1024 (get_or fours i [])
    four_in u = rw four_is (part_under cells 1024 (i * 4) 4 (let p : 0 < 1024 = omega arith in p) (λ k _ _. u k))

    pub four_long : length (get_or fours i []) ≡ 4
    four_long = rw four_is (part_long cells (i * 4) 4 (omega (arith, div-mul-le_self (length cells) 4)))

    pub fours_next : (old mid new : List ℕ) → Adds (take (i * 4) cells) old mid → Adds (get_or fours i []) mid new → Adds (take ((i + 1) * 4) cells) old new
    fours_next old mid new a b =
        let e : (i + 1) * 4 ≡ i * 4 + 4 = omega arith in
        rw (e, take-add (i * 4) 4 cells, ← four_is) (adds_both (take (i * 4) cells) (get_or fours i []) old mid new a b)

  pub fours_all : (i : ℕ) (rest old mid new : List ℕ) → length cells / 4 ≡ i → rest ≡ drop (length cells / 4 * 4) cells
      → Adds (take (i * 4) cells) old mid → Adds rest mid new → Adds cells old new
  fours_all i rest old mid new e r a b =
      let q : take (i * 4) cells ++ rest ≡ cells = rw (r, e) (take-append-drop (i * 4) cells) in
      subst (λ (l : List ℕ). Adds l old new) q (adds_both (take (i * 4) cells) rest old mid new a b)

-- the parts that are marked
module _ (cells : List ℕ) (u : Under 1024 cells) where
  pub cell_in : (i : ℕ) → get_or cells i 0 < 1024
  cell_in i = u i

  pub rest_in : (a : ℕ) → Under 1024 (drop a cells)
  rest_in a = rest_under cells 1024 a (let p : 0 < 1024 = omega arith in p) (λ k _ _. u k)

-- ---- strips without a mark, and without one past the area

zero_bit : (b : ℕ) → bit_of 0 b ≡ false
unfolding bit_of
zero_bit b = ap (λ (k : ℕ). eqb (k % 2) 1) (zero-div (2 ^ b))

get_d_blank : (n k : ℕ) → ◌≡◌ {A = ℕ} (get_or (replicate n 0) k 0) 0
get_d_blank zero k = refl
get_d_blank (suc n) zero = refl
get_d_blank (suc n) (suc k) = get_d_blank n k

pub strips_blank : Blank (replicate 16 0)
unfolding marked
strips_blank = record {
  size = length-replicate {A = ℕ} 16 0;
  none = λ c. ap (λ (x : ℕ). bit_of x (c % 64)) (get_d_blank 16 (c / 64)) ∙ zero_bit (c % 64);
}

or_right : (t u : Bool) → u ≡ false → (t || u) ≡ t
or_right true u e = refl
or_right false u e = e

past_end : (c area : ℕ) (cells : List ℕ) → Under area cells → area ≤ c → member c cells ≡ false
unfolding member
past_end c area [] u l = refl
past_end c area (x ∷ xs) u l =
    let h = u 0 in
    rw (ne_eqb c x (λ e. lt_irrefl c (omega arith))) (past_end c area xs (λ k. u (suc k)) l)

-- the marks of a list on blank strips
module _ (cells old new : List ℕ) (b : Blank old) (a : Adds cells old new) where
  only : (c : ℕ) → marked new c ≡ member c cells
  only c = a.shows c ∙ or_right (member c cells) (marked old c) (b.none c)

  pub shows_cells : (n : ℕ) → unmarked new n ≡ free_from (λ c. member c cells) 0 n
  unfolding unmarked
  shows_cells n = free_ext (marked new) (λ c. member c cells) n 0 (λ c _ _. only c)

  pub inside : (area : ℕ) → Under area cells → area ≤ 1024 → Inside area new
  inside area u m = record { area_max = m; size = a.size; past = λ c l. only c ∙ past_end c area cells u l }
