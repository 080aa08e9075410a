-- `unit::outcome_of` meets its contract: 80, then 81, then the index; one law of `Choosing` each. Assumes nothing.
use Rattle.unit.proofs.Choosing.{outcome_80, outcome_81, choosable, outcome_comes}
use Rattle.unit.proofs.outcome_of.Goals as goal

pub returns-then-is_outside : goal.returns-then-is_outside
returns-then-is_outside c = search outcome_80

pub returns-then-not-is_unit : goal.returns-then-not-is_unit
returns-then-not-is_unit c = search outcome_81

pub index_of-requires : goal.index_of-requires
index_of-requires c = search choosable

pub returns : goal.returns
returns c = search outcome_comes
