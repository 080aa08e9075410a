-- The refusals of a step but the last, as one verdict. Assumes nothing.
use Rattle.std.specs.Prelude.{◌≡◌, Bool, false, ◌&&◌, List, ℕ, eqb, ltb, get_or, replicate, Ok, Err}
use Rattle.rules.specs.Events.{blank}
use Rattle.rules.specs.Image.{alive_at}
use Rattle.rules.specs.Says.{Says, by_table}
use Rattle.rules.specs.Orders.{asked_rows, asked_order}
use Rattle.rules.specs.declared.Setting.{Setting}
use Rattle.rules.specs.declared.refusal.Refusal.{Refusal}
use Rattle.rules.specs.declared.Stepped.{Stepped}

-- of a well-formed image
pub record AsksImage (s : Setting) (w acts : List ℕ) (v : Says (Unit {0})) : Type 0 where
  pub answer : v ≡ by_table (asked_rows s w acts) (Ok tt)

pub record Asks (s : Setting) (w acts : List ℕ) (v : Says (Unit {0})) : Type 0 where
  pub answer : v ≡ by_table (asked_order s w acts) (Ok tt)

-- 25, by the image's words
abbrev pub bad_at : List ℕ → List ℕ → ℕ → Bool
bad_at w acts i = eqb (alive_at w i) 1 && ltb 2 (get_or acts i 0)
