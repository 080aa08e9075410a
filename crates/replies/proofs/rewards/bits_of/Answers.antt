-- A number that equals itself is no NaN.
use mathlib.Core.Path.{◌≡◌, sym, subst, ◌∙◌}
use mathlib.Core.Bool.{false, not}
use lib.Dec.{T}
use lib.Ieee.{Float, nan, inf, fin, ne, is_nan}
use lib.Ieee.Compare.{nan_differs}
use Rattle.replies.proofs.rewards.bits_of.Goals as goal

real : (x : Float) → ne x x ≡ false → T (not (is_nan x))
unfolding is_nan
real nan e = absurd (subst T (sym nan_differs ∙ e) tt)
real (inf s) e = tt
real (fin s m k) e = tt

pub float_to_bits-result : goal.float_to_bits-result
float_to_bits-result c = real c.args.x c.if-x.false
