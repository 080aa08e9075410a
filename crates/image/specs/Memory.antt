-- Where in the caller's memory a part of an image lies, and which part the body query hands back. Assumes nothing.
use Rattle.std.specs.Prelude.{ℕ, ◌+◌, ◌*◌, ◌&&◌, List, ltb}
use Rattle.std.specs.Borrow.{Bor}
use Rattle.lists.specs.Choice.{◌if◌else◌}
use Rattle.rules.specs.Image.{snakes_in, start_at, well_formed}

-- word k of a lent slice: in the slice's own block, two bytes a word past its own offset
abbrev pub word_place : Bor (List ℕ) → ℕ → ℕ × ℕ
word_place s k = (s.ref_ptr.0, k * 2 + s.ref_ptr.1)

-- the body's start word; the front for a malformed image or no such snake
unfoldable pub start_asked : List ℕ → ℕ → ℕ
start_asked w i = start_at w i if well_formed w && ltb i (snakes_in w) else 0
