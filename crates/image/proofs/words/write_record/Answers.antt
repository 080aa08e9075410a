-- `image::write_record` meets its contract: the four words, the heading and the flag as numbers (`record_written`). Assumes nothing.
use Rattle.image.proofs.Read.{record_written}
use Rattle.image.proofs.words.write_record.Goals as goal

pub returns : goal.returns
returns c = search record_written
