-- What an outcome is chosen from, and what is shown of the one that is chosen (02, wish 14). Assumes nothing.
use Rattle.std.specs.Prelude.{◌≡◌, ℕ, ◌+◌, ◌^◌, ◌<◌, ◌≤◌, true, false, List, pos, ◌≢◌, Float, Ok, Err}
use Rattle.std.specs.Float.{binary64}
use Rattle.std.specs.Float.Ieee.{of_int}
use Rattle.std.specs.Float.Ieee.Exact.{HasValue}
use Rattle.rules.specs.Image.{state_of}
use Rattle.rules.specs.Chance.{outcomes}
use Rattle.rules.specs.Promises.{Draws}
use Rattle.rules.specs.declared.Drawn.{Drawn}
use Rattle.unit.specs.UnitNumber.{is_unit, whole_part}
use Rattle.rules.specs.Says.{Says}
use Rattle.rules.specs.declared.refusal.Refusal.TheVariants as Refusal

-- a count and a number that are not refused
pub record Choosable (c : ℕ) (u : Float) : Type 0 where
  pub some : 0 < c
  pub few : c ≤ 2 ^ 53
  pub unit : is_unit u ≡ true

-- 'the answer is the whole part of the exact product or one more, never less, and always a legal index.
-- Turning the count into binary64 loses nothing there'
pub record Chosen (c : ℕ) (u : Float) (r : Says ℕ) : Type 0 where
  pub index : ℕ
  pub answer : r ≡ Ok index
  pub legal : index < c
  pub never_less : whole_part c u ≤ index
  pub one_more : index ≤ whole_part c u + 1
  pub lossless : HasValue (of_int binary64 (pos c)) false c 1

-- index i of image w: below its count, and no draw of it is refused by 27
pub record NeverAbove (w : List ℕ) (i : ℕ) : Type 0 where
  pub below : i < outcomes (state_of w)
  pub never_27 : (old new list cells : List ℕ) (d : Says Drawn) → Draws w i old new list cells d → d ≢ Err Refusal.Outcome
