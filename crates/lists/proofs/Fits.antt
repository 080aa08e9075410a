-- A word of a slice of 16-bit words fits a wider width, at any index. Assumes nothing.
use Prim.Native.Nat.{ℕ, ◌<◌}
use mathlib.Core.List.{List}
use lib.ListN.{get_or}
use mir.Syntax.{w16, w32, w64}
use mir.Val.{Fits}
use mir.Facts.{Fits-widen}

module _ (w : List ℕ) (k : ℕ) (h : (j : ℕ) → Fits w16 (get_or w j 0)) where
  pub word_small : get_or w k 0 < 65536
  word_small = (h k).fits

  pub word_fits : Fits w64 (get_or w k 0)
  word_fits = Fits-widen tt (h k)

  pub word_fits_32 : Fits w32 (get_or w k 0)
  word_fits_32 = Fits-widen tt (h k)
