-- A number kept to 64 bits, and what the product's loop goes by. Assumes nothing.
use mathlib.Core.Path.{◌≡◌, ap}
use mathlib.Core.Bool.{true, false}
use Prim.Native.Nat.{ℕ, ◌+◌, ◌-◌, ◌*◌, ◌≤◌, ◌<◌, ◌^◌}
use native.Mathlib.Nat.{le_trans}
use native.Mathlib.Omega.{arith}
use lib.Dec.{ltb}
use borrow.Author.Tests.{lt-ltb, le-ltb, ltb-true}
use Rattle.std.specs.Prelude.{Some, None}
use Rattle.lists.specs.Products.{falling, fitted}
use Rattle.lists.proofs.Products.{falling_next, falling_mono}
use Rattle.lists.proofs.Tests.{ordered, less, more}

module _ (p : ℕ) where
  pub fitted_over : fitted p ≡ None → ltb (2 ^ 64 - 1) p ≡ true
  unfolding fitted
  fitted_over e = elim (ordered (2 ^ 64 - 1) p) [ less l t ↦ t | more l t ↦ let h : Some p ≡ None = rw t at e in cc ]

  -- above any limit of 64 bits where it does not fit
  pub fitted_above : fitted p ≡ None → (m : ℕ) → m < 2 ^ 64 → ltb m p ≡ true
  fitted_above e m h = let l = ltb-true (2 ^ 64 - 1) p (fitted_over e) in lt-ltb m p (omega arith)

  module _ (n : ℕ) (e : fitted p ≡ Some n) where
    pub fitted_in : ltb (2 ^ 64 - 1) p ≡ false
    unfolding fitted
    fitted_in = elim (ordered (2 ^ 64 - 1) p) [ less l t ↦ let h : None ≡ Some n = rw t at e in cc | more l t ↦ t ]

    pub fitted_is : n ≡ p
    unfolding fitted
    fitted_is = let h : Some p ≡ Some n = rw fitted_in at e in cc

-- the next factor of a product that is p so far
module _ (n k j p : ℕ) (h : j < k) (g : k ≤ n) (e : p ≡ falling n j) where
  product_le : p * (n - j) ≤ falling n k
  product_le = rw (e, ← (falling_next n j)) (falling_mono n (j + 1) k (omega arith) g)

  -- it passes the limit: so does the whole
  pub product_over : 2 ^ 64 ≤ p * (n - j) → None ≡ fitted (falling n k)
  unfolding fitted
  product_over o = rw (lt-ltb (2 ^ 64 - 1) (falling n k) (le_trans (omega arith) product_le))

pub product_done : (n k p : ℕ) → p ≡ falling n k → p < 2 ^ 64 → Some p ≡ fitted (falling n k)
unfolding fitted
product_done n k p e h = rw (le-ltb (2 ^ 64 - 1) (falling n k) (rw (← e) (omega arith))) (ap Some e)
