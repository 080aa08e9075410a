-- `image::record_at` meets its contract: the four words, read at their places (`record_read`). Assumes nothing.
use Rattle.image.proofs.Read.{record_read}
use Rattle.image.proofs.table.record_at.Goals as goal

pub returns : goal.returns
returns c = search record_read
