-- Places that are near enough to the grid for signed numbers of 32 bits. Assumes nothing.
use Rattle.std.specs.Prelude.{◌<◌, T, ℤ, nat_abs}
use Rattle.std.specs.Int.Signed.{mag, non_neg}
use Rattle.rules.specs.declared.Place.{Place}

pub record Near (p : Place) : Type 0 where
  pub row : mag p.row < 1048576
  pub col : mag p.col < 1048576

-- a number that 16 bits hold without its sign
pub record Plain (x : ℤ) : Type 0 where
  pub positive : T (non_neg x)
  pub small : nat_abs x < 65536
