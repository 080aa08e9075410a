-- Demands 1 and 2 of the outcome of a unit number (02, wish 14): an answer, or exactly the table's number in the table's order; where no row holds, the
-- definition. It is lent nothing. Assumes nothing.
use Rattle.std.specs.Prelude.{Ok, Err}
use Prim.Native.Nat.{ℕ}
use mathlib.Core.Path.{◌≡◌, refl, ◌∙◌}
use mathlib.Core.Bool.{true}
use mathlib.Core.List.{[], ◌∷◌}
use lib.Ieee.{Float}
use Rattle.rules.specs.Tables.{none_hold}
use Rattle.unit.specs.UnitNumber.{outcome_of}
use Rattle.unit.specs.Orders.{outcome_order}
use Rattle.unit.specs.Calls.{outcome_says}
use Rattle.unit.specs.Promises.{Chooses}
use Rattle.theorems.specs.Answers.{RefusedBy}
use Rattle.theorems.proofs.Refusals.{numbers, by_rows}
use Rattle.theorems.proofs.Definitions.{lawful}
use Rattle.rules.specs.Says.{Says}

-- 'Refusals: 80 count outside the range, then 81 u outside its own'
pub outcome_order_lem : (c : ℕ) (u : Float) → numbers (outcome_order c u) ≡ 80 ∷ 81 ∷ []
outcome_order_lem c u = refl

pub outcome_refused : (c : ℕ) (u : Float) (r : Says ℕ) → Chooses c u r → RefusedBy Err (outcome_order c u) r
unfolding outcome_says
outcome_refused c u r p = by_rows (outcome_order c u) (outcome_of c u) r p.answer

-- the rounded product, cut, at most count - 1
pub outcome_is : (c : ℕ) (u : Float) (r : Says ℕ) → Chooses c u r → none_hold (outcome_order c u) ≡ true → r ≡ Ok (outcome_of c u)
unfolding outcome_says
outcome_is c u r p h = (p.answer ∙ lawful (outcome_order c u) (outcome_of c u) h)
