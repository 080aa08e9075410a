-- Where a body lies: in each case what the body query hands back. Assumes nothing.
use Prim.Native.Nat.{ℕ, ◌+◌, ◌*◌, ◌<◌, ◌≤◌}
use mathlib.Core.Path.{◌≡◌, refl, sym, ap, ap₂, ◌∙◌}
use mathlib.Core.Bool.{Bool, true, false, not, ◌&&◌, and-false}
use mathlib.Core.List.{List, [], ◌∷◌}
use native.Mathlib.Omega.{arith}
use borrow.Author.Tests.{not-true, lt-ltb, le-ltb}
use lib.Dec.{ltb}
use lib.ListN.{length, get_or, take, drop, length-drop}
use lib.Seq.{length-take-le}
use Rattle.rules.specs.Facts.{Sound}
use Rattle.rules.specs.Image.{snakes_in, start_at, length_at, well_formed}
use Rattle.rules.specs.Calls.{body_asked}
use Rattle.rules.specs.Promises.{Checks}
use Rattle.image.specs.Memory.{start_asked}
use Rattle.image.proofs.Asked.{parts_malformed, parts_beyond, parts_body}
use Rattle.telling.specs.Told.{FlatBody}

module _ (w : List ℕ) (i : ℕ) where
  start_none : (well_formed w && ltb i (snakes_in w)) ≡ false → 0 ≡ start_asked w i
  unfolding start_asked
  start_none e = rw e

  start_is : (well_formed w && ltb i (snakes_in w)) ≡ true → start_at w i ≡ start_asked w i
  unfolding start_asked
  start_is e = rw e

  -- the part that starts at s and has n words is the body
  part_is : (s n : ℕ) → s ≡ start_asked w i → n ≡ length (body_asked w i) → take n (drop s w) ≡ body_asked w i → FlatBody w i (s ∷ n ∷ []) 0
  part_is s n p q e = record {
    refusal = refl;
    start_len = ap₂ (λ (a b : ℕ). a ∷ b ∷ []) p q;
    words = ap₂ (λ (a b : ℕ). take b (drop a w)) (sym p) (sym q) ∙ e;
  }

  -- no part: a malformed image, or no such snake
  pub malformed : (b : Bool) → Checks w b → not b ≡ true → FlatBody w i (0 ∷ 0 ∷ []) 0
  malformed b q h =
      let e : well_formed w ≡ false = sym q.answer ∙ not-true b h in
      let p = (parts_malformed w i e).answer in
      part_is 0 0 (start_none (rw e)) (ap length p) p

  pub no_snake : snakes_in w ≤ i → FlatBody w i (0 ∷ 0 ∷ []) 0
  no_snake h =
      let p = (parts_beyond w i h).answer in
      part_is 0 0 (start_none (rw (le-ltb i (snakes_in w) h) (and-false (well_formed w)))) (ap length p) p

  -- start and length stand in the snake's record
  pub lies : Sound w → i < snakes_in w → (k l : ℕ) → k ≡ 5 + 4 * i → l ≡ 6 + 4 * i → FlatBody w i (get_or w k 0 ∷ get_or w l 0 ∷ []) 0
  lies s h k l pk pl =
      let p = (parts_body w i _ refl h s).answer in
      let room : length_at w i ≤ length (drop (start_at w i) w) = rw (length-drop (start_at w i) w) (omega (arith, s.total, s.bodies_in i h)) in
      rw (pk, pl) (part_is (start_at w i) (length_at w i) (start_is (rw (s.formed, lt-ltb i (snakes_in w) h))) (sym (length-take-le (length_at w i) (drop (start_at w i) w) room) ∙ ap length p) p)
