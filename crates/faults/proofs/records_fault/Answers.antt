-- `faults::records_fault` meets its contract: a record that does not fit is 51; where all fit, all contents are in range. Assumes nothing.
use borrow.Author.Rules.{rules}
use Rattle.lists.proofs.Fits.{word_small}
use mathlib.Core.Path.{refl}
use Rattle.faults.proofs.Rows.{record_early, record_in_lem, at_record, in_range}
use Rattle.faults.proofs.records_fault.Goals as goal

pub first_record-requires : goal.first_record-requires
first_record-requires c = search (rules, word_small)

pub record_out-requires : goal.record_out-requires
record_out-requires c = search (rules, record_early, record_in_lem, word_small)

pub returns-in-Some : goal.returns-in-Some
returns-in-Some c = at_record _ c.requires _ c.in-Some.ensures _ c.record_out.ensures _ refl

pub layout_fault-requires : goal.layout_fault-requires
layout_fault-requires c = in_range _ c.requires c.in-None.ensures
