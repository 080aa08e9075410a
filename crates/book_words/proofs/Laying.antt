-- How the words of the contents are written. Assumes nothing.
use Rattle.std.specs.Prelude.{Option, Some, None, is_some, unwrap_or}
use Prim.Native.Nat.{ℕ, ◌/◌, ◌%◌}
use mathlib.Core.Path.{◌≡◌, ◌∙◌}
use mathlib.Core.Bool.{Bool}
use mathlib.Core.List.{List, [], ◌∷◌}
use lib.IntN.{nat_abs}
use lib.ListN.{get_or}
use Rattle.lists.specs.Choice.{bit}
use Rattle.lists.specs.Lists.{write_at}
use Rattle.rules.specs.declared.Setting.{Setting}
use Rattle.book_words.specs.Written.{Five, Wordy, Fronted, PairWritten}

-- ---- the first 17 words

pub five_is : (l : Option ℕ) (t : Bool) (set k : ℕ) → t ≡ is_some l → set ≡ bit t → k ≡ unwrap_or l 0
    → Five l (set ∷ k % 4294967296 % 65536 ∷ k % 4294967296 / 65536 ∷ k / 4294967296 % 65536 ∷ k / 4294967296 / 65536 ∷ [])
five_is None t set k p q r = record { words = rw (q, p, r) }
five_is (Some n) t set k p q r = record { words = rw (q, p, r) }

module _ (s : Setting) (w : Wordy s) (lead ticks : List ℕ) (five : Five s.win_food_lead lead) (five' : Five s.max_ticks ticks) (p g f : ℕ) (old new : List ℕ) where
  pub front_is : g ≡ nat_abs s.grid_size → f ≡ bit s.play_to_last
      → new
      ≡ write_at
      old
      0
      (1
      ∷ s.num_snakes
      ∷ g
      ∷ s.initial_length
      ∷ f
      ∷ get_or lead 0 0
      ∷ get_or lead 1 0
      ∷ get_or lead 2 0
      ∷ get_or lead 3 0
      ∷ get_or lead 4 0
      ∷ s.initial_food_count
      ∷ get_or ticks 0 0
      ∷ get_or ticks 1 0
      ∷ get_or ticks 2 0
      ∷ get_or ticks 3 0
      ∷ get_or ticks 4 0
      ∷ p
      ∷ []) → Fronted s p old new
  front_is z y e = record { words = rw (z ∙ w.side, y, five.words, five'.words) at e }

-- ---- two words

pub pair_is : (k n : ℕ) (old new : List ℕ) → new ≡ write_at old k (n % 65536 ∷ n / 65536 ∷ []) → PairWritten k n old new
pair_is k n old new e = record { words = e }
