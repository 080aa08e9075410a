-- Laws of a run of writes, one after the other, and of digits. Assumes nothing.
use Prim.Native.Nat.{ℕ, zero, suc, ◌+◌, ◌-◌, ◌/◌, ◌%◌, ◌^◌, ◌<◌, ◌≤◌}
use native.Mathlib.Nat.{pow-suc, one-le-pow, mod-lt, mod-eq_of_lt, pow-le-pow_right}
use native.Mathlib.Omega.{arith}
use mathlib.Core.Path.{◌≡◌, refl, sym, ap, ◌∙◌}
use mathlib.Core.Bool.{Bool, true, false, cond}
use mathlib.Core.List.{List, [], ◌∷◌, ◌++◌}
use lib.Dec.{ltb, leb, lit≤}
use lib.ListN.{length, length-append}
use borrow.Author.Tests.{lt-ltb, le-ltb, leb-true, leb-false}
use Rattle.io.specs.Digits.{last_digits, IsDigitCount, hex_digit_ascii}
use Rattle.lists.specs.Lists.{write_at}
use Rattle.lists.proofs.Writes.{write_none, write_more, length_write}
use Rattle.printing.specs.Text.{Wrote, digits_up_to, or_dash}

-- nothing written, one list written, and one after another
pub nothing : (d : List ℕ) (at most : ℕ) → Wrote d d at at [] most
nothing d at most = record { words = sym (write_none d at); next = omega arith; near = omega arith; long = refl }

pub written : {d e s : List ℕ} {at r : ℕ} (most : ℕ) → e ≡ write_at d at s → r ≡ at + length s → length s ≤ most → at + most ≤ length d → Wrote d e at r s most
written {d} {e} {s} {at} most w n m f = record { words = w; next = n; near = omega arith; long = ap length w ∙ length_write d at s (omega arith) }

pub both : {d e f s t : List ℕ} {at r q m n : ℕ} → Wrote d e at r s m → Wrote e f r q t n → at ≤ length d → Wrote d f at q (s ++ t) (m + n)
both {d} {e} {f} {s} {t} {at} {r} {q} x y h = record {
  words = y.words ∙ ap (λ (l : List ℕ). write_at l r t) x.words ∙ ap (λ (j : ℕ). write_at (write_at d at s) j t) x.next ∙ write_more d at s t h;
  next = omega (arith, x.next, y.next, length-append s t);
  near = omega (arith, x.near, y.near);
  long = y.long ∙ x.long;
}

-- a larger bound
pub wider : {d e s : List ℕ} {at r m : ℕ} (n : ℕ) → Wrote d e at r s m → m ≤ n → Wrote d e at r s n
wider n x h = record { words = x.words; next = x.next; near = omega (arith, x.near); long = x.long }

-- where nothing was written a dash is written, and where something was it stays
pub dashed : {d e f : List ℕ} {at r j m : ℕ} (s : List ℕ) → Wrote d e at j s m → j ≡ at → Wrote e f at r (45 ∷ []) 1 → 1 ≤ m → Wrote d f at r (or_dash s) m
dashed {d} {e} {f} {at} [] x p y h = record {
  words = y.words ∙ ap (λ (l : List ℕ). write_at l at (45 ∷ [])) (x.words ∙ write_none d at);
  next = y.next;
  near = omega (arith, y.near);
  long = y.long ∙ x.long;
}
dashed (b ∷ s) x p y h = absurd (omega (arith, x.next))

pub undashed : {d e : List ℕ} {at j m : ℕ} (s : List ℕ) → Wrote d e at j s m → (j ≡ at → ⊥) → Wrote d e at j (or_dash s) m
undashed {at = at} {j = j} [] x p = let e : j ≡ at = omega (arith, x.next) in absurd (p e)
undashed (b ∷ s) x p = x

-- ---- digits

short_by : (t : Bool) (a b : ℕ) (s : List ℕ) (k : ℕ) → length s ≤ k → length (cond t (a ∷ []) (s ++ (b ∷ []))) ≤ suc k
short_by true a b s k h = omega arith
short_by false a b s k h = omega (arith, length-append s (b ∷ []))

pub digits_short : (k n : ℕ) → length (digits_up_to k n) ≤ k
unfolding digits_up_to
digits_short zero n = omega arith
digits_short (suc k) n = short_by (ltb n 10) (48 + n) (48 + n % 10) (digits_up_to k (n / 10)) k (digits_short k (n / 10))

glyph_is : (d : ℕ) → d < 10 → hex_digit_ascii d ≡ 48 + d
glyph_is d h = rw (lt-ltb d 10 h)

-- the fewest digits that hold n
pub digits_are : (k f n : ℕ) → IsDigitCount 10 1 n k → k ≤ f → last_digits 10 k n ≡ digits_up_to f n
unfolding digits_up_to
digits_are zero f n w h = absurd (omega (arith, w.0))
digits_are (suc k) zero n w h = absurd (omega arith)
digits_are (suc zero) (suc f) n w h =
    let l : n < 10 = w.1 in
    rw (lt-ltb n 10 l, mod-eq_of_lt l, glyph_is n l)
digits_are (suc (suc j)) (suc f) n w h =
    let p = one-le-pow j 10 (omega arith) in
    let e1 = pow-suc 10 j in
    let e2 = pow-suc 10 (suc j) in
    let q : suc (suc j) - 1 ≡ suc j = omega arith in
    let z : suc j - 1 ≡ j = omega arith in
    let low : 10 ^ suc j ≤ n = rw q at (w.2 (omega arith)) in
    let big : 10 ≤ n = omega arith in
    let up : n / 10 < 10 ^ suc j = omega (arith, w.1) in
    let down : 10 ^ j ≤ n / 10 = omega arith in
    let i = digits_are (suc j) f (n / 10) (omega arith, up, λ g. rw z down) (omega arith) in
    rw (le-ltb n 10 big, i, glyph_is (n % 10) (mod-lt n (omega arith)))

-- a number below 2^64 has at most twenty digits
few_by : (t : Bool) (k n : ℕ) → IsDigitCount 10 1 n k → n < 18446744073709551616 → leb k 20 ≡ t → k ≤ 20
few_by true k n w h e = leb-true k 20 e
few_by false k n w h e =
    let l : 20 < k = leb-false k 20 e in
    let p : 10 ^ 20 ≤ 10 ^ (k - 1) = pow-le-pow_right {n = 10} (omega arith) {i = 20} {j = k - 1} (omega arith) in
    let q : 10 ^ (k - 1) ≤ n = w.2 (omega arith) in
    let b : 18446744073709551616 ≤ 10 ^ 20 = lit≤ tt in
    absurd (omega arith)

pub few : (k n : ℕ) → IsDigitCount 10 1 n k → n < 18446744073709551616 → k ≤ 20
few k n w h = few_by (leb k 20) k n w h refl
