-- What is read at the places of a snake's words, and parts as slices hold them. Assumes nothing.
use Rattle.std.specs.Prelude.{Option}
use Prim.Native.Nat.{ℕ, ◌+◌, ◌-◌, ◌*◌, ◌<◌, ◌≤◌}
use native.Mathlib.Omega.{arith}
use mathlib.Core.Path.{◌≡◌, sym, ap, ap₂, ◌∙◌}
use mathlib.Core.Bool.{Bool}
use mathlib.Core.List.{List, [], ◌∷◌}
use lib.Dec.{eqb}
use lib.ListN.{length, take, drop}
use mir.Syntax.{w64}
use mir.Val.{Fits}
use denote.Ref.{Bor}
use Rattle.lists.specs.Choice.{bit}
use Rattle.lists.specs.Lists.{write_at}
use Rattle.lists.specs.Search.{found_in}
use Rattle.lists.proofs.Lists.{part_is, rest_is}
use Rattle.rules.specs.Facts.{Sound}
use Rattle.rules.specs.Headings.{number_of, heading_of}
use Rattle.rules.specs.Image.{word, snakes_in, start_at, food_start, body_at, food_at}
use Rattle.rules.specs.declared.Heading.{Heading}
use Rattle.rules.proofs.Parts.{body_in_lem, food_after}
use Rattle.image.specs.Memory.{word_place}
use Rattle.image.specs.Records.{record_at}
use Rattle.image.specs.declared.SnakeRecord.{SnakeRecord}

-- ---- a body: snake i's start stands at a, its length at k

module _ (w : List ℕ) (s : Sound w) (i : ℕ) (l : i < snakes_in w) (a : ℕ) (from : a ≡ 5 + 4 * i) (k : ℕ) (size : k ≡ 6 + 4 * i) where
  pub body_ends : word w a + word w k ≤ length w
  body_ends = rw (from, size) (body_in_lem w s i l)

  pub body_fits : Fits w64 (word w a + word w k)
  body_fits = record { fits = omega (arith, body_ends, s.small) }

  pub start_fits : Fits w64 (word w a * 2)
  start_fits = record { fits = omega (arith, body_ends, s.small) }

module _ (w : List ℕ) (i a : ℕ) (from : a ≡ 5 + 4 * i) where
  pub body_read : (k : ℕ) → k ≡ 6 + 4 * i → take (word w a + word w k - word w a) (drop (word w a) w) ≡ body_at w i
  body_read k size = part_is w (word w a) (word w k) ∙ rw (from, size)

pub body_place : (s : Bor (List ℕ)) (i a : ℕ) → a ≡ 5 + 4 * i → word_place s (word s.now a) ≡ word_place s (start_at s.now i)
body_place s i a from = ap (λ (k : ℕ). word_place s (word s.now k)) from

-- ---- the food: past the last body

module _ (w : List ℕ) (s : Sound w) (a : ℕ) (from : a ≡ 5 + 4 * (snakes_in w - 1)) (k : ℕ) (size : k ≡ 6 + 4 * (snakes_in w - 1)) where
  pub last_end : word w a + word w k ≡ food_start w
  last_end = sym (food_after w s ∙ rw (from, size))

  pub last_fits : Fits w64 (word w a + word w k)
  last_fits = record { fits = omega (arith, last_end, s.total, s.small) }

pub food_read : (w : List ℕ) (k : ℕ) → k ≡ food_start w → take (length w - k) (drop k w) ≡ food_at w
food_read w k e = rest_is w k ∙ ap (λ (j : ℕ). drop j w) e

-- ---- the search in a part

module _ (w : List ℕ) (a n cell : ℕ) where
  pub found_part : (r : Option ℕ) → r ≡ found_in (take (a + n - a) (drop a w)) cell → r ≡ found_in (take n (drop a w)) cell
  found_part r e = e ∙ ap (λ (l : List ℕ). found_in l cell) (part_is w a n)

-- ---- the record, read and written

pub record_read : (w : List ℕ) (i a k d f : ℕ) (h : Heading) → a ≡ 5 + 4 * i → k ≡ 6 + 4 * i → d ≡ 7 + 4 * i → f ≡ 8 + 4 * i → h ≡ heading_of (word w d)
    → ◌≡◌ {A = SnakeRecord} (record { start = word w a; len = word w k; heading = h; alive = eqb (word w f) 1 }) (record_at w i)
record_read w i a k d f h from size way flag e = rw (e, from, size, way, flag)

module _ (old new : List ℕ) where
  pub record_written : (at start len x y : ℕ) (h : Heading) (b : Bool) → new ≡ write_at old at (start ∷ len ∷ x ∷ y ∷ []) → x ≡ number_of h → y ≡ bit b
      → new ≡ write_at old at (start ∷ len ∷ number_of h ∷ bit b ∷ [])
  record_written at start len x y h b e p q = e ∙ ap₂ (λ (x y : ℕ). write_at old at (start ∷ len ∷ x ∷ y ∷ [])) p q

  pub contents_written : (n g due x foods : ℕ) (b : Bool) → new ≡ write_at old 0 (n ∷ g ∷ due ∷ x ∷ foods ∷ []) → x ≡ bit b
      → new ≡ write_at old 0 (n ∷ g ∷ due ∷ bit b ∷ foods ∷ [])
  contents_written n g due x foods b e p = e ∙ ap (λ (x : ℕ). write_at old 0 (n ∷ g ∷ due ∷ x ∷ foods ∷ [])) p
