-- One word: which of its bits are set, how many of a run of squares are clear, and its next number. Assumes nothing.
use mathlib.Core.Path.{◌≡◌, refl, sym, ap, ap₂, ◌∙◌}
use mathlib.Core.Bool.{Bool, true, false, ◌||◌}
use Prim.Native.Nat.{ℕ, zero, suc, ◌+◌, ◌*◌, ◌/◌, ◌%◌, ◌^◌, ◌<◌, max}
use native.Mathlib.Nat.{add-zero, lt_irrefl, le_dest, mod-lt, div-one, div_self, div-eq_of_lt, div-add-mod', pow-suc, zero-lt-suc}
use native.Mathlib.Numerals.{add-one}
use native.Mathlib.Omega.{arith}
use lib.Arith.{digits_div, digits_mod, lt_of_le-ne}
use lib.Bits.{bit_or, or_step, or_shr}
use lib.Count.{ones, ones_step, ones-le}
use lib.Dec.{eqb}
use lib.ListN.{length}
use lib.Pow.{pow_pos, pow-lt, pow-add, shl-shr, shr-shr, shr_lt, mod-mod-pow, field}
use Rattle.lists.proofs.Tests.{compared, same, other, ordered, less, more}
use Rattle.boards.specs.Free.{free_from}
use Rattle.boards.proofs.Free.{free_ext}
use Rattle.strips.specs.Marks.{bit_of}

-- ---- a bit of a word

pub bit_low : (x : ℕ) → bit_of x 0 ≡ eqb (x % 2) 1
unfolding bit_of
bit_low x = ap (λ (k : ℕ). eqb (k % 2) 1) (div-one x)

pub bit_up : (x b : ℕ) → bit_of x (suc b) ≡ bit_of (x / 2) b
unfolding bit_of
bit_up x b =
    let e : 1 + b ≡ suc b = omega arith in
    ap (λ (k : ℕ). eqb (k % 2) 1) (sym (shr-shr x 1 b ∙ ap (λ (j : ℕ). x / 2 ^ j) e))

-- a number by its half and its lowest bit
halves : (x q r : ℕ) → r < 2 → x ≡ q * 2 + r → (x / 2 ≡ q) × (x % 2 ≡ r)
halves x q r l e = (ap (λ (k : ℕ). k / 2) e ∙ digits_div q l, ap (λ (k : ℕ). k % 2) e ∙ digits_mod q l)

two_pos : 0 < 2
two_pos = omega arith

pub low_lt : (x : ℕ) → x % 2 < 2
low_lt x = mod-lt x two_pos

pub not_one : (k : ℕ) → k < 2 → (k ≡ 1 → ⊥) → k ≡ 0
not_one zero l d = refl
not_one (suc zero) l d = absurd (d refl)
not_one (suc (suc k)) l d = absurd (lt_irrefl 0 (omega arith))

-- ---- two words joined

low_or : (p q : ℕ) → p < 2 → q < 2 → (max p q < 2) × (eqb (max p q) 1 ≡ (eqb p 1 || eqb q 1))
low_or zero zero l m = (l, refl)
low_or zero (suc zero) l m = (m, refl)
low_or (suc zero) zero l m = (l, refl)
low_or (suc zero) (suc zero) l m = (l, refl)
low_or (suc (suc p)) q l m = absurd (lt_irrefl 0 (omega arith))
low_or zero (suc (suc q)) l m = absurd (lt_irrefl 0 (omega arith))
low_or (suc zero) (suc (suc q)) l m = absurd (lt_irrefl 0 (omega arith))

module _ (a b : ℕ) where
  joined : (bit_or a b / 2 ≡ bit_or (a / 2) (b / 2)) × (bit_or a b % 2 ≡ max (a % 2) (b % 2))
  joined = halves (bit_or a b) (bit_or (a / 2) (b / 2)) (max (a % 2) (b % 2)) (low_or (a % 2) (b % 2) (low_lt a) (low_lt b)).0 (or_step a b)

  joined_low : eqb (bit_or a b % 2) 1 ≡ (eqb (a % 2) 1 || eqb (b % 2) 1)
  joined_low = ap (λ (k : ℕ). eqb k 1) joined.1 ∙ (low_or (a % 2) (b % 2) (low_lt a) (low_lt b)).1

joined_bit : (a b c : ℕ) → bit_of (bit_or a b) c ≡ (bit_of a c || bit_of b c)
unfolding bit_of
joined_bit a b c = ap (λ (k : ℕ). eqb (k % 2) 1) (or_shr a b c) ∙ joined_low (a / 2 ^ c) (b / 2 ^ c)

-- a word of one bit
one_same : (b : ℕ) → bit_of (2 ^ b) b ≡ true
unfolding bit_of
one_same b = ap (λ (k : ℕ). eqb (k % 2) 1) (div_self (pow_pos b))

one_other : (b c : ℕ) → (c ≡ b → ⊥) → bit_of (2 ^ b) c ≡ false
unfolding bit_of
one_other b c d = elim (ordered c b) [
  | less l t ↦
      let (k, e) = le_dest l in
      let p : 2 ^ b ≡ 2 ^ suc k * 2 ^ c = ap (λ (j : ℕ). 2 ^ j) (let q : b ≡ suc k + c = omega arith in q) ∙ pow-add 2 (suc k) c in
      ap (λ (j : ℕ). eqb (j % 2) 1) (ap (λ (j : ℕ). j / 2 ^ c) p ∙ shl-shr (2 ^ suc k) c)
      ∙ ap (λ (j : ℕ). eqb j 1) (halves (2 ^ suc k) (2 ^ k) 0 two_pos (omega (arith, pow-suc 2 k))).1
  | more l t ↦ ap (λ (k : ℕ). eqb (k % 2) 1) (div-eq_of_lt (pow-lt (lt_of_le-ne l (λ e. d (sym e)))))
]

or_turned : (p q : Bool) → (p || q) ≡ (q || p)
or_turned true true = refl
or_turned true false = refl
or_turned false true = refl
or_turned false false = refl

one_bit : (b c : ℕ) → bit_of (2 ^ b) c ≡ eqb c b
one_bit b c = elim (compared c b) [ same e t ↦ rw (t, e) (one_same b) | other d t ↦ rw t (one_other b c d) ]

-- one bit more
pub more_bit : (x b c : ℕ) → bit_of (bit_or x (2 ^ b)) c ≡ (eqb c b || bit_of x c)
more_bit x b c = joined_bit x (2 ^ b) c ∙ or_turned (bit_of x c) (bit_of (2 ^ b) c) ∙ ap (λ (t : Bool). t || bit_of x c) (one_bit b c)

-- ---- a run of squares that shows the bits of a word

-- from square a on, n squares are used where the word's bits are set
abbrev pub Shows : (ℕ → Bool) → ℕ → ℕ → ℕ → Type 0
Shows used a n x = (b : ℕ) → b < n → used (a + b) ≡ bit_of x b

pub same_word : (u v : ℕ → Bool) (a n x : ℕ) → Shows u a n x → Shows v a n x → free_from u a n ≡ free_from v a n
same_word u v a n x h k =
    free_ext u v n a (λ c l m. let (b, e) = le_dest l in
    ap u (sym e) ∙ h b (omega arith) ∙ sym (k b (omega arith)) ∙ ap v e)

module _ (used : ℕ → Bool) (a n x : ℕ) (h : Shows used a (suc n) x) where
  shows_low : used a ≡ eqb (x % 2) 1
  shows_low = ap used (sym (add-zero a)) ∙ h 0 (zero-lt-suc n) ∙ bit_low x

  shows_up : Shows used (suc a) n (x / 2)
  shows_up b l = ap used (let e : suc a + b ≡ a + suc b = omega arith in e) ∙ h (suc b) (omega arith) ∙ bit_up x b

-- ---- how many are clear

ones_up : (x n : ℕ) → ones (x % 2 ^ suc n) ≡ x % 2 + ones (x / 2 % 2 ^ n)
ones_up x n =
    ones_step (x % 2 ^ suc n)
    ∙ ap₂ (λ (p q : ℕ). p + ones q)
    (ap (λ (k : ℕ). x % 2 ^ k % 2) (sym (add-one n)) ∙ mod-mod-pow x n 1)
    (ap (λ (k : ℕ). x % 2 ^ k / 2) (sym (add-one n)) ∙ field x n 1)

pub count_clear : (used : ℕ → Bool) (n a x : ℕ) → Shows used a n x → length (free_from used a n) + ones (x % 2 ^ n) ≡ n
unfolding free_from
count_clear used zero a x h = omega (arith, ones-le 0 (x % 2 ^ 0) (mod-lt x (pow_pos 0)))
count_clear used (suc n) a x h =
    let ih = count_clear used n (suc a) (x / 2) (shows_up used a n x h) in
    let o = ones_up x n in
    elim (compared (x % 2) 1) [
      | same e t ↦ rw (shows_low used a n x h ∙ t) (omega (arith, ih, o, e))
      | other d t ↦ let z = not_one (x % 2) (low_lt x) d in rw (shows_low used a n x h ∙ t) (omega (arith, ih, o, z))
    ]

-- ---- the next number, by its half and its lowest bit

pub odd_next : (x : ℕ) → x % 2 ≡ 1 → ((x + 1) / 2 ≡ x / 2 + 1) × ((x + 1) % 2 ≡ 0)
odd_next x e = halves (x + 1) (x / 2 + 1) 0 two_pos (omega (arith, div-add-mod' x 2, e))

pub even_next : (x : ℕ) → x % 2 ≡ 0 → ((x + 1) / 2 ≡ x / 2) × ((x + 1) % 2 ≡ 1)
even_next x e = halves (x + 1) (x / 2) 1 (omega arith) (omega (arith, div-add-mod' x 2, e))

-- ---- room for the next number

-- a word with a clear bit has a next number of as many bits
pub clear_room : (used : ℕ → Bool) (n a x : ℕ) → Shows used a n x → x < 2 ^ n → 0 < length (free_from used a n) → x + 1 < 2 ^ n
unfolding free_from
clear_room used zero a x h m l = absurd (lt_irrefl 0 l)
clear_room used (suc n) a x h m l =
    let half : x / 2 < 2 ^ n = shr_lt n 1 (rw (add-one n) m) in
    elim (compared (x % 2) 1) [
      | same e t ↦
          let ih = clear_room used n (suc a) (x / 2) (shows_up used a n x h) half (rw (shows_low used a n x h ∙ t) at l) in
          omega (arith, ih, pow-suc 2 n, div-add-mod' x 2, e)
      | other d t ↦ let z = not_one (x % 2) (low_lt x) d in omega (arith, half, pow-suc 2 n, div-add-mod' x 2, z)
    ]
