-- `image::write_contents` meets its contract: the five words, the birth as a number (`contents_written`). Assumes nothing.
use Rattle.image.proofs.Read.{contents_written}
use Rattle.image.proofs.words.write_contents.Goals as goal

pub returns : goal.returns
returns c = search contents_written
