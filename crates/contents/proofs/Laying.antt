-- An accepted setting's numbers fit their words. Assumes nothing.
use Rattle.std.specs.Prelude.{Ok}
use Prim.Native.Nat.{ℕ, ◌<◌, ◌≤◌}
use native.Mathlib.Omega.{arith}
use mathlib.Core.Path.{◌≡◌, sym, ◌∙◌}
use lib.IntN.{ℤ, pos, nat_abs}
use Rattle.rules.specs.Setting.{area_of, side_of, setting_check}
use Rattle.rules.specs.SettingFacts.{Accepts}
use Rattle.rules.specs.Promises.{Validates}
use Rattle.rules.specs.declared.Setting.{Setting}
use Rattle.rules.proofs.Facts.{square_le}
use Rattle.rules.proofs.SettingFacts.{accepts}
use Rattle.grid.specs.Near.{Plain}
use Rattle.rules.proofs.SettingParts.{says_accepted}
use Rattle.contents.specs.Written.{Wordy}
use Rattle.rules.specs.Says.{Says}

-- ---- an accepted setting's numbers fit their words

module _ (s : Setting) (e : setting_check s ≡ 0) where
  facts : Accepts s
  facts = accepts s e

  area_small : area_of s ≤ 1024
  area_small = square_le (side_of s.grid_size) facts.side_max

  plain_by : (g : ℤ) (n : ℕ) → g ≡ pos n → n < 65536 → Plain g
  plain_by g n q h = rw q (record { positive = tt; small = h })

  side_by : (g : ℤ) (n : ℕ) → g ≡ pos n → nat_abs g ≡ side_of g
  side_by g n q = rw q

  pub setting_wordy : Wordy s
  setting_wordy = record {
    few = omega (arith, facts.snakes_max);
    plain = plain_by s.grid_size (side_of s.grid_size) facts.grid_is (omega (arith, facts.side_max));
    side = side_by s.grid_size (side_of s.grid_size) facts.grid_is;
    long = omega (arith, facts.size_max, area_small);
    fed = omega (arith, facts.food_free, area_small);
  }

pub accepted_wordy : (s : Setting) (v : Says (Unit {0})) → Validates s v → v ≡ (Ok tt) → Wordy s
accepted_wordy s v q h = setting_wordy s (says_accepted s (sym q.answer ∙ h))
