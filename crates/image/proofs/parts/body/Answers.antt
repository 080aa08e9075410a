-- `image::body` meets its contract: for a malformed image or no such snake the empty front part, else the body, by its words and its place (`Asked`).
-- Assumes nothing.
use Prim.Native.Nat.{◌≤◌}
use native.Mathlib.Omega.{arith}
use borrow.Author.Rules.{rules}
use Rattle.lists.proofs.Fits.{word_fits}
use Rattle.rules.specs.Image.{snakes_in}
use Rattle.rules.proofs.Facts.{passed, failed, word_in}
use Rattle.image.proofs.Asked.{parts_malformed, parts_beyond, parts_body, place_malformed, place_beyond, place_body}
use Rattle.image.proofs.parts.body.Goals as goal
use Rattle.image.proofs.parts.body.Goals.{then-not-well_formed-via-then-not-well_formed as malformed, then-not-well_formed-via-else-not-well_formed+then-image-snake as beyond}

pub bounds-image-0 : goal.bounds-image-0
bounds-image-0 c = search (rules, word_in, passed)

pub overflow_cast-image : goal.overflow_cast-image
overflow_cast-image c = search word_fits

pub returns-then-not-well_formed-clause-words : goal.returns-then-not-well_formed-clause-words
returns-then-not-well_formed-clause-words c = elim c.then-not-well_formed.branch [
  | malformed w ↦ search (parts_malformed, failed)
  | beyond w ↦ let out : snakes_in c.args.image.now ≤ c.args.snake = omega arith in search parts_beyond
]

pub returns-then-not-well_formed-clause-place : goal.returns-then-not-well_formed-clause-place
returns-then-not-well_formed-clause-place c = elim c.then-not-well_formed.branch [
  | malformed w ↦ search (place_malformed, failed)
  | beyond w ↦ let out : snakes_in c.args.image.now ≤ c.args.snake = omega arith in search place_beyond
]

pub body_of-requires : goal.body_of-requires
body_of-requires c = search (rules, passed)

pub returns : goal.returns
returns c = search (parts_body, place_body, passed)
