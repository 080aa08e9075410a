-- `telling::tell_body` meets its contract: the image is sound, so that the snake's record says where its body lies (`Lying`). Assumes nothing.
use Rattle.lists.proofs.Fits.{word_fits}
use Rattle.telling.proofs.Lying.{no_snake, lies}
use Rattle.telling.proofs.bodies.tell_body.Goals as goal

pub returns-then-image-snake : goal.returns-then-image-snake
returns-then-image-snake c = search no_snake

pub overflow_cast-start : goal.overflow_cast-start
overflow_cast-start c = search word_fits

pub overflow_cast-len : goal.overflow_cast-len
overflow_cast-len c = search word_fits

pub returns : goal.returns
returns c = search lies
