-- `image::find_in` meets its contract: what the slice holds is the part (`found_part`). Assumes nothing.
use Rattle.image.proofs.Read.{found_part}
use Rattle.image.proofs.parts.find_in.Goals as goal

pub returns : goal.returns
returns c = search found_part
