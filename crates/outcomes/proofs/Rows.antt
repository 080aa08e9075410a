-- What count, draw and rank ask alike: the image's rows, 23, 28, whatever table stands after them. Assumes nothing.
use Rattle.std.specs.Prelude.{Option, Ok, Err, Some, None, ok_or}
use mathlib.Core.Path.{◌≡◌, refl, sym, ap, ◌∙◌}
use mathlib.Core.List.{List, ◌++◌}
use Prim.Native.Nat.{ℕ}
use borrow.Author.Tests.{eq-eqb, ne_eqb}
use Rattle.rules.specs.Image.{due_in, state_of}
use Rattle.rules.specs.Facts.{Sound}
use Rattle.rules.specs.Chance.{outcomes}
use Rattle.rules.specs.Tables.{Table}
use Rattle.rules.specs.Orders.{due_rows, count_order}
use Rattle.rules.specs.Says.{Says, by_table}
use Rattle.rules.specs.Calls.{count_says}
use Rattle.rules.specs.Promises.{Counts, Examines}
use Rattle.rules.specs.declared.refusal.Refusal.{Refusal}
use Rattle.rules.proofs.Tables.{table_both}
use Rattle.rules.proofs.Faults.{image_on}
use Rattle.outcomes.specs.Odds.{Stands}
use Rattle.outcomes.specs.declared.odds.Odds.{Odds}
use Rattle.outcomes.proofs.Checked.{checked_refuses}
use Rattle.outcomes.proofs.Marking.{count_over, count_in, count_eq}

-- what is handed on where there is no count
pub count_none : (c : Option ℕ) (k : Refusal) → ok_or c Refusal.Count ≡ Err k → (c ≡ None) × (k ≡ Refusal.Count)
count_none None k e = (refl, cc)
count_none (Some m) k e = cc

-- 23 and 28
module _ {A : Type 0} (r : Says A) (w : List ℕ) where
  zero_due : due_in w ≡ 0 → by_table (due_rows w) r ≡ Err Refusal.NoneDue
  unfolding by_table
  zero_due z = rw (eq-eqb (due_in w) 0 z)

  module _ (n : due_in w ≡ 0 → ⊥) (strips : List ℕ) (o : Odds) (p : Stands w strips o) where
    over_due : o.count ≡ None → by_table (due_rows w) r ≡ Err Refusal.Count
    unfolding by_table
    over_due e = rw (ne_eqb (due_in w) 0 n, count_over w strips o p e)

    some_due : (m : ℕ) → o.count ≡ Some m → by_table (due_rows w) r ≡ r
    unfolding by_table
    some_due m e = rw (ne_eqb (due_in w) 0 n, count_in w strips o p m e)

module _ {A : Type 0} (t : Table) (r : Says A) (w : List ℕ) where
  pub faulty_first : (a : Says (Unit {0})) → Examines w a → (x : Refusal) → a ≡ Err x → by_table (count_order w ++ t) r ≡ Err x
  faulty_first a e x g = table_both (count_order w) t r ∙ checked_refuses w a e x g (due_rows w) (by_table t r)

  module _ (s : Sound w) where
    past_image : by_table (count_order w ++ t) r ≡ by_table (due_rows w) (by_table t r)
    past_image = table_both (count_order w) t r ∙ image_on w (due_rows w) (by_table t r) s.formed

    pub none_due : due_in w ≡ 0 → by_table (count_order w ++ t) r ≡ Err Refusal.NoneDue
    none_due z = past_image ∙ zero_due (by_table t r) w z

    module _ (n : due_in w ≡ 0 → ⊥) (strips : List ℕ) (o : Odds) (p : Stands w strips o) where
      pub too_many : o.count ≡ None → by_table (count_order w ++ t) r ≡ Err Refusal.Count
      too_many e = past_image ∙ over_due (by_table t r) w n strips o p e

      pub none_holds : (m : ℕ) → o.count ≡ Some m → by_table (count_order w ++ t) r ≡ by_table t r
      none_holds m e = past_image ∙ some_due (by_table t r) w n strips o p m e

-- ---- count, which has no further row

module _ (w : List ℕ) where
  abbrev counts : Says ℕ
  counts = Ok (outcomes (state_of w))

  pub count_faulty : (a : Says (Unit {0})) → Examines w a → (x : Refusal) → a ≡ Err x → Counts w (Err x)
  unfolding count_says
  count_faulty a e x g = record { answer = sym (checked_refuses w a e x g (due_rows w) counts) }

  module _ (s : Sound w) where
    past : count_says w ≡ by_table (due_rows w) counts
    unfolding count_says
    past = image_on w (due_rows w) counts s.formed

    pub count_23 : due_in w ≡ 0 → Counts w (Err Refusal.NoneDue)
    count_23 z = record { answer = sym (past ∙ zero_due counts w z) }

    module _ (n : due_in w ≡ 0 → ⊥) (strips : List ℕ) (o : Odds) (p : Stands w strips o) where
      -- the count, or 28 where there is none
      pub count_says_lem : (r : Says ℕ) → r ≡ ok_or o.count Refusal.Count → Counts w r
      count_says_lem r q = record { answer = q ∙ told o.count refl ∙ sym past }
        where
          told : (c : Option ℕ) → o.count ≡ c → ok_or c Refusal.Count ≡ by_table (due_rows w) counts
          told None e = sym (over_due counts w n strips o p e)
          told (Some m) e = ap Ok (count_eq w strips o p m e) ∙ sym (some_due counts w n strips o p m e)
