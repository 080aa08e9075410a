-- A pattern that passes the test is no NaN's.
use mathlib.Core.Path.{sym, subst, ◌∙◌}
use mathlib.Core.Bool.{Bool, not}
use lib.Dec.{T}
use lib.Ieee.{binary64}
use lib.Ieee.Bits.{nan_bits_above}
use borrow.Author.Tests.{le-ltb}
use Rattle.replies.proofs.rewards.float_of.Goals as goal

pub float_from_bits-result : goal.float_from_bits-result
float_from_bits-result c = subst (λ (b : Bool). T (not b)) (sym (nan_bits_above binary64 c.args.bits ∙ le-ltb _ _ c.if-bits-gt9218868437227405312.false)) tt
