-- `unit::index_of` meets its contract: the rounded product lies where it can be cut (`Products`). Assumes nothing.
use Rattle.unit.specs.UnitNumber.{outcome_of}
use Rattle.unit.proofs.Products.{product}
use Rattle.unit.proofs.index_of.Goals as goal

pub truncating_f64_to_u64-whole-requires-clause-lower_bound : goal.truncating_f64_to_u64-whole-requires-clause-lower_bound
truncating_f64_to_u64-whole-requires-clause-lower_bound c = (product c.args.count c.args.u c.requires).above

pub truncating_f64_to_u64-whole-requires-clause-upper_bound : goal.truncating_f64_to_u64-whole-requires-clause-upper_bound
truncating_f64_to_u64-whole-requires-clause-upper_bound c = (product c.args.count c.args.u c.requires).below

pub returns : goal.returns
unfolding outcome_of
returns c = rw (c.min.ensures, c.truncating_f64_to_u64-whole.ensures)
