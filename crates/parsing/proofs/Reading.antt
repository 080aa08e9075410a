-- What the loop that reads digits needs, its three ways out, and what a number that was read tells of its field. Assumes nothing.
use Rattle.std.specs.Prelude.{Some, None}
use Prim.Native.Nat.{ℕ, ◌+◌, ◌*◌, ◌-◌, ◌<◌, ◌≤◌}
use native.Mathlib.Numerals.{add-one}
use native.Mathlib.Nat.{le_refl}
use native.Mathlib.Omega.{arith}
use mathlib.Core.Path.{◌≡◌, refl, sym, ◌∙◌}
use mathlib.Core.Bool.{Bool, true, false, and-false}
use mathlib.Core.List.{List, [], ◌∷◌}
use lib.Dec.{leb}
use lib.ListN.{length, get_or, drop, drop_of_length-le}
use lib.Seq.{drop-cons}
use borrow.Author.Tests.{le-ltb, lt-ltb, leb-true}
use Rattle.lists.proofs.Tests.{and_left, and_right}
use Rattle.parsing.specs.Numbers.{is_digit, all_digits, read_on, digits_fit, number_by, decimal_of, is_decimal}

pub at_least : (b : ℕ) → is_digit b ≡ true → 48 ≤ b
at_least b e = leb-true 48 b (and_left _ _ e)

pub at_most : (b : ℕ) → is_digit b ≡ true → b ≤ 57
at_most b e = leb-true b 57 (and_right (leb 48 b) _ e)

grows : (v : ℕ) (s : List ℕ) → v ≤ read_on v s
unfolding read_on
grows v [] = le_refl v
grows v (b ∷ s) = let h = grows (v * 10 + (b - 48)) s in omega arith

module _ (s : List ℕ) (i : ℕ) where
  digits_end : length s ≤ i → all_digits (drop i s) ≡ true
  unfolding all_digits
  digits_end h = rw (drop_of_length-le s h)

  digits_out : i < length s → is_digit (get_or s i 0) ≡ false → all_digits (drop i s) ≡ false
  unfolding all_digits
  digits_out h e = rw (drop-cons s i 0 h, e)

  pub digits_next : i < length s → is_digit (get_or s i 0) ≡ true → all_digits (drop i s) ≡ all_digits (drop (i + 1) s)
  unfolding all_digits
  digits_next h e = rw (drop-cons s i 0 h, e, add-one)

  read_end : (v : ℕ) → length s ≤ i → read_on v (drop i s) ≡ v
  unfolding read_on
  read_end v h = rw (drop_of_length-le s h)

  pub read_next : (v : ℕ) → i < length s → read_on v (drop i s) ≡ read_on (v * 10 + (get_or s i 0 - 48)) (drop (i + 1) s)
  unfolding read_on
  read_next v h = rw (drop-cons s i 0 h, add-one)

  pub not_digit : i < length s → all_digits (drop i s) ≡ all_digits s → is_digit (get_or s i 0) ≡ false → None ≡ number_by (digits_fit s) (read_on 0 s)
  unfolding digits_fit
  not_digit h p e = rw (sym p ∙ digits_out h e)

  pub too_large : (v : ℕ) → i < length s → read_on v (drop i s) ≡ read_on 0 s → 18446744073709551616 ≤ v * 10 + (get_or s i 0 - 48) → None ≡ number_by (digits_fit s) (read_on 0 s)
  unfolding digits_fit
  too_large v h p l =
      let g = grows (v * 10 + (get_or s i 0 - 48)) (drop (i + 1) s) in
      let e = sym p ∙ read_next v h in
      let big : 18446744073709551616 ≤ read_on 0 s = omega arith in
      rw (le-ltb _ _ big, and-false)

  pub all_read : (v : ℕ) → length s ≤ i → all_digits (drop i s) ≡ all_digits s → read_on v (drop i s) ≡ read_on 0 s → v < 18446744073709551616 → Some v ≡ number_by (digits_fit s) (read_on 0 s)
  unfolding digits_fit
  all_read v h p q l = rw (sym p ∙ digits_end h, sym q ∙ read_end v h, lt-ltb _ _ l)

by_reads : (t : Bool) (n v : ℕ) → number_by t n ≡ Some v → (t ≡ true) × (v ≡ n)
by_reads true n v e = let p : v ≡ n = cc in (refl, p)
by_reads false n v e = let z : ◌≡◌ {A = ℕ} 0 1 = cc in absurd (omega arith)

by_none : (t : Bool) (n : ℕ) → number_by t n ≡ None → t ≡ false
by_none true n e = let z : ◌≡◌ {A = ℕ} 0 1 = cc in absurd (omega arith)
by_none false n e = refl

pub was_number : (f : List ℕ) (v : ℕ) → decimal_of f ≡ Some v → (is_decimal f ≡ true) × (v ≡ read_on 0 f)
unfolding decimal_of
was_number f v e = by_reads (is_decimal f) (read_on 0 f) v e

pub no_number : (f : List ℕ) → decimal_of f ≡ None → is_decimal f ≡ false
unfolding decimal_of
no_number f e = by_none (is_decimal f) (read_on 0 f) e

pub decimal_none : decimal_of [] ≡ None
unfolding decimal_of
decimal_none = refl
