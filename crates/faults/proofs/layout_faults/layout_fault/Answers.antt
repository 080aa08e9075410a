-- `faults::layout_fault` meets its contract: the starts, then the total; with both, each part is where it is due. Assumes nothing.
use borrow.Author.Rules.{rules}
use Rattle.faults.proofs.Rows.{at_52, at_53, in_place}
use Rattle.faults.proofs.layout_faults.layout_fault.Goals as goal

pub returns-then-not-found : goal.returns-then-not-found
returns-then-not-found c = search at_52

pub returns-then-total-image : goal.returns-then-total-image
returns-then-total-image c = search at_53

pub cells_fault-requires : goal.cells_fault-requires
cells_fault-requires c = search (rules, in_place)
