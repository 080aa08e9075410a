-- `book_words::words::word` meets its contract: a word of 16 bits fits 64. Assumes nothing.
use native.Mathlib.Omega.{arith}
use mathlib.Core.Path.{refl}
use Rattle.book_words.proofs.words.word.Goals as goal

pub overflow_cast-result : goal.overflow_cast-result
overflow_cast-result c = omega (arith, c.shared_slice_known-1.given c.args.k)

pub returns : goal.returns
returns c = record { value = refl; small = omega (arith, c.shared_slice_known-1.given c.args.k) }
