-- `image::heading_of` meets its contract: a word that is none of 0, 1 and 2 is Left's (`heading_last`). Assumes nothing.
use Rattle.image.proofs.Headed.{heading_last}
use Rattle.image.proofs.words.heading_of.Goals as goal

pub returns-in_default : goal.returns-in_default
returns-in_default c = search heading_last
