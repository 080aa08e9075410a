-- `wrong_contents::first_record` meets its contract. The invariant: the first i records fit (`RecordsTo`).
-- Assumes nothing.
use Rattle.wellformed.proofs.Loops.{records_none}
use Rattle.wrong_contents.proofs.Finding.{record_here, record_on, record_none}
use Rattle.wrong_contents.proofs.contents.first_record.Goals as goal

pub loop-i-init : goal.loop-i-init
loop-i-init c = search records_none

pub returns-then-not-record_fits : goal.returns-then-not-record_fits
returns-then-not-record_fits c = search record_here

pub loop-i-preserved : goal.loop-i-preserved
loop-i-preserved c = search record_on

pub returns : goal.returns
returns c = search record_none
