-- `image::food_start` meets its contract: a sound image's food starts where its last body ends (`last_end`). Assumes nothing.
use Rattle.lists.proofs.Fits.{word_fits}
use Rattle.image.proofs.Read.{last_fits, last_end}
use Rattle.image.proofs.parts.food_start.Goals as goal

pub overflow_cast-result : goal.overflow_cast-result
overflow_cast-result c = search word_fits

pub overflow_cast-result-2 : goal.overflow_cast-result-2
overflow_cast-result-2 c = search word_fits

pub overflow_add-result : goal.overflow_add-result
overflow_add-result c = search last_fits

pub returns : goal.returns
returns c = search last_end
