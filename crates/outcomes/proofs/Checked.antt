-- An image that was checked, by what the check answers: what it accepts is sound, and what it refuses is refused by every table that begins with an image's rows.
-- Assumes nothing.
use Rattle.std.specs.Prelude.{Ok, Err}
use Prim.Native.Nat.{ℕ}
use mathlib.Core.Path.{◌≡◌, sym, ◌∙◌}
use mathlib.Core.List.{List, ◌++◌}
use Rattle.rules.specs.Tables.{Table}
use Rattle.rules.specs.Facts.{Sound}
use Rattle.rules.specs.Faults.{image_rows}
use Rattle.rules.specs.Says.{Says, by_table}
use Rattle.rules.specs.Calls.{image_says}
use Rattle.rules.specs.Promises.{Examines}
use Rattle.rules.specs.declared.refusal.Refusal.{Refusal}
use Rattle.rules.proofs.Tables.{table_given, table_after}
use Rattle.rules.proofs.Faults.{no_fault}
use Rattle.rules.proofs.Facts.{sound}

module _ (w : List ℕ) (a : Says (Unit {0})) (e : Examines w a) where
  pub checked_sound : (u : Unit {0}) → a ≡ Ok u → Sound w
  unfolding image_says
  checked_sound u g = sound w (sym (no_fault w) ∙ (table_given (image_rows w) tt u (sym e.answer ∙ g)).0)

  pub checked_refuses : {A : Type 0} (k : Refusal) → a ≡ Err k → (t : Table) (r : Says A) → by_table (image_rows w ++ t) r ≡ Err k
  unfolding image_says
  checked_refuses k g t r = table_after (image_rows w) t r ∙ rw (sym e.answer ∙ g)
