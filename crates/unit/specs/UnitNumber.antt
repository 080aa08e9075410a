-- The outcome of a unit number (02, wish 14), for every count and every binary64 number. Assumes nothing.
use Rattle.std.specs.Prelude.{ℕ, ◌-◌, ◌*◌, ◌/◌, ◌^◌, min, Bool, false, ◌&&◌, ◌||◌, pos, ◌==◌, nat_lt, Float}
use Rattle.std.specs.Float.{fin, binary64}
use Rattle.std.specs.Float.Ieee.{of_int, mul, le, lt, to_unsigned}
use Rattle.std.specs.Float.Ieee.Positive.{num, den}

-- 'counts 1 to 2^53': a count outside this range
unfoldable pub outside_count : ℕ → Bool
outside_count c = c == 0 || nat_lt (2 ^ 53) c

-- 'a binary64 number u, at least 0 (minus zero counts as 0) and below 1', by binary64's own tests: no NaN, no infinity, no negative number is
unfoldable pub is_unit : Float → Bool
is_unit u = le (fin false 0 (pos 0)) u && lt u (fin false 1 (pos 0))

-- 'the rounded product of count and u, cut to a whole number, at most count - 1'
unfoldable pub outcome_of : ℕ → Float → ℕ
outcome_of c u = min (to_unsigned 64 (mul binary64 (of_int binary64 (pos c)) u)) (c - 1)

-- 'the whole part of the exact product': the size of u is the fraction `num u / den u`
unfoldable pub whole_part : ℕ → Float → ℕ
whole_part c u = c * num u / den u
