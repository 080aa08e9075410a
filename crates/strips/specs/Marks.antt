-- Squares as bits: 16 strips of 64 squares, on which taken cells have a mark. Assumes nothing.
use Rattle.std.specs.Prelude.{ℕ, ◌-◌, ◌*◌, ◌/◌, ◌%◌, ◌^◌, ◌<◌, ◌≤◌, Bool, false, ◌||◌, List, ◌≡◌, eqb, length, get_or}
use Rattle.lists.specs.Lists.{member}
use Rattle.boards.specs.Free.{free_from}

-- bit b of a word is set
unfoldable pub bit_of : ℕ → ℕ → Bool
bit_of x b = eqb (x / 2 ^ b % 2) 1

-- square c has a mark
unfoldable pub marked : List ℕ → ℕ → Bool
marked strips c = bit_of (get_or strips (c / 64) 0) (c % 64)

-- the squares of the first n that have no mark, in their order
unfoldable pub unmarked : List ℕ → ℕ → List ℕ
unmarked strips n = free_from (marked strips) 0 n

-- the squares without a mark of a strip that begins at square a
unfoldable pub clear_from : ℕ → ℕ → List ℕ
clear_from a x = free_from (λ c. bit_of x (c - a)) a 64

-- a strip that begins at square a has an i-th square without a mark
pub record Among (x a i : ℕ) : Type 0 where
  pub room : i < length (clear_from a x)
  pub low : a < 1024

-- no square has a mark
pub record Blank (strips : List ℕ) : Type 0 where
  pub size : length strips ≡ 16
  pub none : (c : ℕ) → marked strips c ≡ false

-- one square more has its mark
pub record Marked (x : ℕ) (old new : List ℕ) : Type 0 where
  pub size : length new ≡ 16
  pub shows : (c : ℕ) → marked new c ≡ (eqb c x || marked old c)

-- those cells have their marks, beside what had one before
pub record Adds (cells old new : List ℕ) : Type 0 where
  pub size : length new ≡ 16
  pub shows : (c : ℕ) → marked new c ≡ (member c cells || marked old c)

-- no square past the area has a mark
pub record Inside (area : ℕ) (strips : List ℕ) : Type 0 where
  pub area_max : area ≤ 1024
  pub size : length strips ≡ 16
  pub past : (c : ℕ) → area ≤ c → marked strips c ≡ false

-- so many squares of the area have no mark
pub record Open (area left : ℕ) (strips : List ℕ) : Type 0 where
  pub area_max : area ≤ 1024
  pub size : length strips ≡ 16
  pub left_is : left ≡ length (unmarked strips area)

-- a count a strip: how many of its squares have no mark
pub record Counted (area : ℕ) (strips tally : List ℕ) : Type 0 where
  pub area_max : area ≤ 1024
  pub size : length strips ≡ 16
  pub long : length tally ≡ 16
  pub counts : (s : ℕ) → s * 64 < area → get_or tally s 0 ≡ length (free_from (marked strips) (s * 64) 64)

-- the area has an i-th square without a mark
pub record Numbered (area : ℕ) (strips tally : List ℕ) (i : ℕ) : Type 0 where
  pub counted : Counted area strips tally
  pub room : i < length (unmarked strips area)

-- square c is one of the area without a mark
pub record Free (area : ℕ) (strips tally : List ℕ) (c : ℕ) : Type 0 where
  pub counted : Counted area strips tally
  pub inside : c < area
  pub clear : marked strips c ≡ false

-- one square more has its mark, and the counts say so
pub record Took (area x : ℕ) (old new tally : List ℕ) : Type 0 where
  pub marks : Marked x old new
  pub counted : Counted area new tally
