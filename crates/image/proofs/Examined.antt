-- What the check's answer tells: a refusal is that of any call that begins with an image's rows, and an accepted image is sound. Assumes nothing.
use Rattle.std.specs.Prelude.{Ok, Err}
use mathlib.Core.Path.{◌≡◌, sym, ap, ◌∙◌}
use mathlib.Core.List.{List, [], ◌++◌, append-nil}
use Prim.Native.Nat.{ℕ}
use Rattle.rules.specs.Tables.{Table}
use Rattle.rules.specs.Facts.{Sound}
use Rattle.rules.specs.Faults.{image_rows}
use Rattle.rules.specs.Says.{Says, by_table}
use Rattle.rules.specs.Calls.{image_says}
use Rattle.rules.specs.Promises.{Examines}
use Rattle.rules.specs.declared.refusal.Refusal.{Refusal}
use Rattle.rules.proofs.Facts.{sound}
use Rattle.rules.proofs.Faults.{no_fault}
use Rattle.rules.proofs.Tables.{and_then, table_after, table_given}

module _ {A : Type 0} (w : List ℕ) (k : Refusal) (x : Examines w (Err k)) where
  pub rows_refuse : (t : Table) (r : Says A) → Err k ≡ by_table (image_rows w ++ t) r
  unfolding image_says
  rows_refuse t r = sym (table_after (image_rows w) t r ∙ ap (λ (v : Says (Unit {0})). and_then v (by_table t r)) (sym x.answer))

  -- the same where no row comes after them
  pub image_refuses : (r : Says A) → Err k ≡ by_table (image_rows w) r
  image_refuses r = rows_refuse [] r ∙ ap (λ (t : Table). by_table t r) (append-nil (image_rows w))

pub image_sound : (w : List ℕ) (u : Unit {0}) → Examines w (Ok u) → Sound w
unfolding image_says
image_sound w u x = sound w (sym (no_fault w) ∙ (table_given (image_rows w) tt u (sym x.answer)).0)
