-- Refusals 80 and 81 as a table: a row is a refusal's number and when it is given (02, wish 14). Assumes nothing.
use Rattle.std.specs.Prelude.{ℕ, not, [], ◌∷◌, Float}
use Rattle.rules.specs.Tables.{Table}
use Rattle.unit.specs.UnitNumber.{outside_count, is_unit}
use Rattle.rules.specs.declared.refusal.Refusal.TheVariants as Refusal

-- 'Refusals: 80 count outside the range, then 81 u outside its own'
abbrev pub outcome_order : ℕ → Float → Table
outcome_order c u = (Refusal.UnitCount, outside_count c) ∷ (Refusal.UnitNumber, not (is_unit u)) ∷ []
