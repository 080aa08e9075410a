-- `flat::hits_words` meets its contract: hit by hit (`Told`). Assumes nothing.
use Rattle.flat.proofs.Told.{hits_told}
use Rattle.flat.proofs.tells.hits_words.Goals as goal

pub returns : goal.returns
returns c = search hits_told
