-- The length below which all bodies lie apart. Assumes nothing.
use Rattle.std.specs.Prelude.{ℕ, ◌+◌, ◌*◌, ◌/◌}

-- of n snakes on a grid of side g; proofs/Apart.antt has the law
abbrev pub span_of : ℕ → ℕ → ℕ
span_of g n = g / 3 + 2 * g / (n + 1)
