-- `faults::fault_in` meets its contract: contents cut short are 50, a word of the first five out of range is 51. Assumes nothing.
use Rattle.faults.proofs.Rows.{at_50, five, at_51, counted}
use Rattle.faults.proofs.fault_in.Goals as goal

pub returns-then-cut_short : goal.returns-then-cut_short
returns-then-cut_short c = search at_50

pub contents_fit-requires : goal.contents_fit-requires
contents_fit-requires c = search five

pub contents_out-requires : goal.contents_out-requires
contents_out-requires c = search five

pub returns-then-not-contents_fit : goal.returns-then-not-contents_fit
returns-then-not-contents_fit c = search at_51

pub records_fault-requires : goal.records_fault-requires
records_fault-requires c = search counted
