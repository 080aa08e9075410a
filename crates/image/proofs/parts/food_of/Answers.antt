-- `image::food_of` meets its contract: what the slice holds is the rest from the food's start on (`food_read`). Assumes nothing.
use Rattle.image.proofs.Read.{food_read}
use Rattle.image.proofs.parts.food_of.Goals as goal

pub returns : goal.returns
returns c = search food_read
