-- `setting::write_start` meets its contract: contents, records and bodies, one after the other, are one write (`start_written`). Assumes nothing.
use Rattle.setting.proofs.Written.{start_written}
use Rattle.setting.proofs.start.write_start.Goals as goal

pub returns : goal.returns
returns c = search start_written
