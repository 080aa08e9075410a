-- Tests taken apart and put together: conjunctions, lists of tests, a comparison with what it says. Assumes nothing.
use mathlib.Core.Path.{◌≡◌, refl, sym, ◌∙◌}
use mathlib.Core.Logic.{◌⊎◌, inl, inr}
use mathlib.Core.Bool.{Bool, true, false, ◌&&◌, ◌||◌, and-false, false≢true, true≢false}
use mathlib.Core.List.{List, [], ◌∷◌}
use Prim.Native.Nat.{ℕ, zero, suc, ◌≤◌, ◌<◌}
use native.Mathlib.Nat.{suc-ne-zero}
use native.Mathlib.Omega.{arith}
use lib.Dec.{eqb, ltb}
use lib.ListN.{get_or}
use mir.Val.{bool_byte}
use borrow.Author.Tests.{eqb-true, eqb-false, eq-eqb, ne_eqb, ltb-true, ltb-false}
use Rattle.lists.specs.Choice.{bit, first_of}
use Rattle.lists.specs.Lists.{every}

-- a test, with its equation
pub tell : (b : Bool) → (b ≡ true) ⊎ (b ≡ false)
tell true = inl refl
tell false = inr refl

-- two numbers, and what their comparison says
pub data Same (a b : ℕ) : Type 0 where
  same : a ≡ b → eqb a b ≡ true → Same a b
  other : (a ≡ b → ⊥) → eqb a b ≡ false → Same a b

pub compared : (a b : ℕ) → Same a b
compared a b = go (eqb a b) refl
  where
    go : (t : Bool) → eqb a b ≡ t → Same a b
    go true e = same (eqb-true a b e) e
    go false e = other (eqb-false a b e) e

pub eqb_sym : (a b : ℕ) → eqb a b ≡ eqb b a
eqb_sym a b = elim (compared a b) [ same e t ↦ t ∙ sym (eq-eqb b a (sym e)) | other n t ↦ t ∙ sym (ne_eqb b a (λ q. n (sym q))) ]

pub data Order (a b : ℕ) : Type 0 where
  less : a < b → ltb a b ≡ true → Order a b
  more : b ≤ a → ltb a b ≡ false → Order a b

pub ordered : (a b : ℕ) → Order a b
ordered a b = go (ltb a b) refl
  where
    go : (t : Bool) → ltb a b ≡ t → Order a b
    go true e = less (ltb-true a b e) e
    go false e = more (ltb-false a b e) e

pub and_left : (a b : Bool) → (a && b) ≡ true → a ≡ true
and_left true b e = refl
and_left false b e = e

pub and_right : (a b : Bool) → (a && b) ≡ true → b ≡ true
and_right true b e = e
and_right false b e = absurd (false≢true e)

pub both : {a b : Bool} → a ≡ true → b ≡ true → (a && b) ≡ true
both p q = rw (p, q)

-- four tests, the second and the third put together first
pub gather : (m h d u : Bool) → (m && (d && (h && u))) ≡ ((h && d) && (m && u))
gather false h d u = sym (and-false (h && d))
gather true true d u = refl
gather true false true u = refl
gather true false false u = refl

pub or_second : (a b : Bool) → a ≡ false → (a || b) ≡ true → b ≡ true
or_second true b e t = absurd (true≢false e)
or_second false b e t = t

pub or_false_left : (a b : Bool) → (a || b) ≡ false → a ≡ false
or_false_left true b e = e
or_false_left false b e = refl

pub or_false_right : (a b : Bool) → (a || b) ≡ false → b ≡ false
or_false_right true b e = absurd (true≢false e)
or_false_right false b e = e

pub bit_le : (b : Bool) → bit b ≤ 1
bit_le true = omega arith
bit_le false = omega arith

-- a test cast to a number
pub byte_bit : (b : Bool) → bool_byte b ≡ bit b
byte_bit true = refl
byte_bit false = refl

-- ---- a list of tests

-- what the test of a list tells of its k-th
pub every_at : (ts : List Bool) (k : ℕ) → every ts ≡ true → get_or ts k true ≡ true
unfolding every
every_at [] k e = refl
every_at (t ∷ ts) zero e = and_left t (every ts) e
every_at (t ∷ ts) (suc k) e = every_at ts k (and_right t (every ts) e)

abbrev pub EachTrue : List Bool → Type 0
EachTrue [] = Unit {0}
EachTrue (t ∷ ts) = (t ≡ true) × EachTrue ts

pub every_true : (ts : List Bool) → EachTrue ts → every ts ≡ true
unfolding every
every_true [] h = refl
every_true (t ∷ ts) h = both h.0 (every_true ts h.1)

-- a first test that fails; a first test that holds
pub every_out : {a : Bool} (ts : List Bool) → a ≡ false → every (a ∷ ts) ≡ false
unfolding every
every_out ts e = rw e

pub every_on : {a : Bool} (ts : List Bool) → a ≡ true → every (a ∷ ts) ≡ every ts
unfolding every
every_on ts e = rw e

-- ---- the first number that is not 0

pub first_some : (a b : ℕ) → (a ≡ 0 → ⊥) → first_of a b ≡ a
first_some zero b h = absurd (h refl)
first_some (suc a) b h = refl

pub first_none : (a b : ℕ) → first_of a b ≡ 0 → a ≡ 0
first_none zero b e = refl
first_none (suc a) b e = e

pub first_then : (a b : ℕ) → first_of a b ≡ 0 → b ≡ 0
first_then zero b e = e
first_then (suc a) b e = absurd (suc-ne-zero a e)
