-- The page before and after one: numbers of 64 bits, which stay where they would leave them. Assumes nothing.
use Rattle.std.specs.Prelude.{ℕ, ◌+◌, ◌-◌, ◌^◌, eqb}
use Rattle.lists.specs.Choice.{◌if◌else◌}

abbrev pub page_after : ℕ → ℕ
page_after p = p if eqb p (2 ^ 64 - 1) else p + 1

abbrev pub page_before : ℕ → ℕ
page_before p = p - 1
