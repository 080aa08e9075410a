-- `bindings::lundaspro_flat_check_image` meets its contract: each case of the verdict (`Saying`). Assumes nothing.
use Rattle.bindings.proofs.Saying.{image_accepted, image_refused}
use Rattle.bindings.proofs.matches.lundaspro_flat_check_image.Goals as goal

pub returns-in-Ok : goal.returns-in-Ok
returns-in-Ok c = search image_accepted

pub returns-in-Err : goal.returns-in-Err
returns-in-Err c = search image_refused
