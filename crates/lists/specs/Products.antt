-- Products that count orders. Assumes nothing.
use Rattle.std.specs.Prelude.{ℕ, zero, suc, ◌*◌, ◌-◌, ◌^◌, ltb, Option, Some, None}
use Rattle.lists.specs.Choice.{◌if◌else◌}

-- n (n - 1) .. with k factors, 1 where k is 0
unfoldable pub falling : ℕ → ℕ → ℕ
falling n zero = 1
falling zero (suc k) = 0
falling (suc n) (suc k) = suc n * falling n k

unfoldable pub factorial : ℕ → ℕ
factorial zero = 1
factorial (suc k) = suc k * factorial k

-- a number that fits 64 bits, and none for one that does not
unfoldable pub fitted : ℕ → Option ℕ
fitted p = None if ltb (2 ^ 64 - 1) p else Some p
