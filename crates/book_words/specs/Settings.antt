-- A setting's words in a book's contents, and the setting that such words tell (02, wish 1). Assumes nothing.
use Rattle.std.specs.Prelude.{ℕ, ◌+◌, ◌*◌, ◌/◌, ◌%◌, Bool, not, ◌&&◌, ◌||◌, List, [], ◌∷◌, ◌++◌, ltb, eqb, pos, Option, Some, None}
use Rattle.lists.specs.Choice.{◌if◌else◌, bit}
use Rattle.rules.specs.Image.{word}
use Rattle.rules.specs.Setting.{is_set, side_of}
use Rattle.rules.specs.declared.Setting.{Setting}

-- ---- a number in words, both ways

-- 'as two words, low one first'
abbrev pub pair_words : ℕ → List ℕ
pair_words k = k % 65536 ∷ k / 65536 ∷ []

-- 'four words lowest first', of a number below 2^64
abbrev pub four_words : ℕ → List ℕ
four_words k = pair_words (k % 4294967296) ++ pair_words (k / 4294967296)

abbrev pub pair_at : List ℕ → ℕ → ℕ
pair_at b k = word b k + 65536 * word b (1 + k)

abbrev pub four_at : List ℕ → ℕ → ℕ
four_at b k = pair_at b k + 4294967296 * pair_at b (2 + k)

-- ---- a limit: 'a flag and four words lowest first, all 0 when unset'

abbrev pub amount : Option ℕ → ℕ
amount None = 0
amount (Some k) = k

abbrev pub limit_words : Option ℕ → List ℕ
limit_words l = bit (is_set l) ∷ four_words (amount l)

abbrev pub limit_of : Bool → ℕ → Option ℕ
limit_of set k = Some k if set else None

abbrev pub limit_at : List ℕ → ℕ → Option ℕ
limit_at b k = limit_of (eqb (word b k) 1) (four_at b (1 + k))

-- off this layout: a flag above 1, or a word that is not 0 after the flag 0
abbrev pub limit_off : List ℕ → ℕ → Bool
limit_off b k = ltb 1 (word b k) || (eqb (word b k) 0 && not (eqb (four_at b (1 + k)) 0))

-- ---- a setting: 'the setting in the order of replay's first line'; 'Lead and max_ticks take five words each'; 'other settings take one'

abbrev pub setting_words : Setting → List ℕ
setting_words s = s.num_snakes ∷ side_of s.grid_size ∷ s.initial_length ∷ bit s.play_to_last ∷ (limit_words s.win_food_lead ++ (s.initial_food_count ∷ limit_words s.max_ticks))

-- words 1 to 15 of a book
unfoldable pub setting_in : List ℕ → Setting
setting_in b = record {
  num_snakes = word b 1;
  grid_size = pos (word b 2);
  initial_length = word b 3;
  play_to_last = eqb (word b 4) 1;
  win_food_lead = limit_at b 5;
  initial_food_count = word b 10;
  max_ticks = limit_at b 11;
}
