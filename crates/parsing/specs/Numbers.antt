-- Numbers of the replay's lines, read from bytes (01, 'Replay'). Assumes nothing.
use Rattle.std.specs.Prelude.{ℕ, ℤ, ◌+◌, ◌*◌, ◌-◌, Bool, true, false, not, ◌&&◌, ◌||◌, List, [], ◌∷◌, ltb, leb, eqb, length, get_or, drop, pos, negsuc, Some, None, Option}
use Rattle.lists.specs.Choice.{◌if◌else◌}

-- `0` (48) to `9` (57)
abbrev pub is_digit : ℕ → Bool
is_digit b = leb 48 b && leb b 57

unfoldable pub all_digits : List ℕ → Bool
all_digits [] = true
all_digits (b ∷ s) = is_digit b && all_digits s

-- the number v, read on by the digits s
unfoldable pub read_on : ℕ → List ℕ → ℕ
read_on v [] = v
read_on v (b ∷ s) = read_on (v * 10 + (b - 48)) s

-- 'without leading zeros': at least one byte, and no zero (48) before another
abbrev pub unpadded : List ℕ → Bool
unpadded s = not (eqb (length s) 0) && (eqb (length s) 1 || not (eqb (get_or s 0 0) 48))

-- 'below 2^64': digits only, of such a number
unfoldable pub digits_fit : List ℕ → Bool
digits_fit s = all_digits s && ltb (read_on 0 s) 18446744073709551616

-- 'decimal without leading zeros, below 2^64'
abbrev pub is_decimal : List ℕ → Bool
is_decimal s = unpadded s && digits_fit s

abbrev pub number_by : Bool → ℕ → Option ℕ
number_by ok n = Some n if ok else None

unfoldable pub decimal_of : List ℕ → Option ℕ
decimal_of s = number_by (is_decimal s) (read_on 0 s)

-- 'grid is from -2^31 to 2^31-1, its minus sign only before a nonzero number'
abbrev pub grid_above : Option ℕ → Option ℤ
grid_above None = None
grid_above (Some n) = Some (pos n) if ltb n 2147483648 else None

abbrev pub grid_below : Option ℕ → Option ℤ
grid_below None = None
grid_below (Some n) = Some (negsuc (n - 1)) if not (eqb n 0) && leb n 2147483648 else None

-- a minus sign is 45
unfoldable pub grid_of : List ℕ → Option ℤ
grid_of s = grid_below (decimal_of (drop 1 s)) if eqb (get_or s 0 0) 45 else grid_above (decimal_of s)

-- one byte, b
abbrev pub is_byte : ℕ → List ℕ → Bool
is_byte b s = eqb (length s) 1 && eqb (get_or s 0 0) b

abbrev pub bound_by : Option ℕ → Option (Option ℕ)
bound_by None = None
bound_by (Some n) = Some (Some n)

-- '`-` means none': 45
unfoldable pub bound_of : List ℕ → Option (Option ℕ)
bound_of s = Some None if is_byte 45 s else bound_by (decimal_of s)

-- 'play_to_last is 0 or 1'
abbrev pub flag_by : Option ℕ → Option Bool
flag_by None = None
flag_by (Some n) =
    Some false if eqb n 0 else
    Some true if eqb n 1 else
    None

unfoldable pub flag_of : List ℕ → Option Bool
flag_of s = flag_by (decimal_of s)
