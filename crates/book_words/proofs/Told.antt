-- A setting's words and the setting that they tell. Assumes nothing.
use Rattle.std.specs.Prelude.{Option}
use Rattle.std.specs.Bool.{then_some}
use Prim.Native.Nat.{ℕ, ◌+◌}
use mathlib.Core.Path.{◌≡◌, refl, ◌∙◌}
use mathlib.Core.Bool.{Bool, true, false}
use mathlib.Core.List.{List}
use lib.Dec.{eqb}
use lib.IntN.{ℤ, pos}
use Rattle.rules.specs.Image.{word}
use Rattle.book_words.specs.Settings.{four_at, limit_of, limit_at, setting_in}
use Rattle.book_words.specs.Read.{Word}

-- ---- what the reading functions find

some_is : (set : Bool) (k : ℕ) → then_some set k ≡ limit_of set k
some_is true k = refl
some_is false k = refl

module _ (b : List ℕ) (k n f : ℕ) (r : Option ℕ) where
  pub limit_read : Word b k n → f ≡ four_at b (1 + k) → r ≡ then_some (eqb n 1) f → r ≡ limit_at b k
  limit_read w e q = rw (← w.value, ← e) (q ∙ some_is (eqb n 1) f)

module _ (b : List ℕ) (n size last food : ℕ) (g : ℤ) (lead ticks : Option ℕ) where
  pub setting_read : Word b 1 n → g ≡ pos (word b 2) → Word b 3 size → Word b 4 last → lead ≡ limit_at b 5 → Word b 10 food → ticks ≡ limit_at b 11
      → record { num_snakes = n; grid_size = g; initial_length = size; play_to_last = eqb last 1; win_food_lead = lead; initial_food_count = food; max_ticks = ticks } ≡ setting_in b
  unfolding setting_in
  setting_read w₁ w₂ w₃ w₄ w₅ w₁₀ w₁₁ = rw (w₁.value, w₂, w₃.value, w₄.value, w₅, w₁₀.value, w₁₁)
