-- What the body query hands back, in each case. Assumes nothing.
use Prim.Native.Nat.{ℕ, ◌<◌, ◌≤◌}
use mathlib.Core.Path.{◌≡◌, ◌∙◌}
use mathlib.Core.Bool.{Bool, true, false, ◌&&◌, and-false}
use mathlib.Core.List.{List, []}
use lib.Dec.{ltb}
use denote.Ref.{Bor}
use borrow.Author.Tests.{lt-ltb, le-ltb}
use Rattle.rules.specs.Calls.{body_asked}
use Rattle.rules.specs.Image.{snakes_in, start_at, body_at, well_formed}
use Rattle.rules.specs.Promises.{Parts}
use Rattle.rules.specs.Facts.{Sound}
use Rattle.image.specs.Memory.{word_place, start_asked}

-- whether there is such a body
abbrev there : List ℕ → ℕ → Bool
there w i = well_formed w && ltb i (snakes_in w)

module _ (w : List ℕ) (i : ℕ) where
  malformed : well_formed w ≡ false → there w i ≡ false
  malformed e = rw e

  no_snake : snakes_in w ≤ i → there w i ≡ false
  no_snake h = rw (le-ltb i (snakes_in w) h) (and-false (well_formed w))

  is_there : Sound w → i < snakes_in w → there w i ≡ true
  is_there s h = rw (s.formed, lt-ltb i (snakes_in w) h)

  -- ---- the words

  parts_none : there w i ≡ false → Parts w i []
  unfolding body_asked
  parts_none e = record { answer = rw e }

  pub parts_malformed : well_formed w ≡ false → Parts w i []
  parts_malformed e = parts_none (malformed e)

  pub parts_beyond : snakes_in w ≤ i → Parts w i []
  parts_beyond h = parts_none (no_snake h)

  pub parts_body : (p : List ℕ) → p ≡ body_at w i → i < snakes_in w → Sound w → Parts w i p
  unfolding body_asked
  parts_body p q h s = let e = is_there s h in record { answer = q ∙ rw e }

-- ---- their place

module _ (s : Bor (List ℕ)) (i : ℕ) where
  place_none : there s.now i ≡ false → word_place s 0 ≡ word_place s (start_asked s.now i)
  unfolding start_asked
  place_none e = rw e

  pub place_malformed : well_formed s.now ≡ false → word_place s 0 ≡ word_place s (start_asked s.now i)
  place_malformed e = place_none (malformed s.now i e)

  pub place_beyond : snakes_in s.now ≤ i → word_place s 0 ≡ word_place s (start_asked s.now i)
  place_beyond h = place_none (no_snake s.now i h)

  pub place_body : (p : ℕ × ℕ) → p ≡ word_place s (start_at s.now i) → i < snakes_in s.now → Sound s.now → p ≡ word_place s (start_asked s.now i)
  unfolding start_asked
  place_body p q h ok = let e = is_there s.now i ok h in q ∙ rw e
