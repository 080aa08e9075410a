use Rattle.setting.proofs.Written.{records_none, records_next}
use Rattle.setting.proofs.start.write_records.Goals as goal

pub loop-i-init : goal.loop-i-init
loop-i-init c = search records_none

pub loop-i-preserved : goal.loop-i-preserved
loop-i-preserved c = search records_next
