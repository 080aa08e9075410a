-- `telling::tell_number` meets its contract: each case of the answer (`Saying`). Assumes nothing.
use Rattle.telling.proofs.Saying.{number_told, number_refused}
use Rattle.telling.proofs.answers.tell_number.Goals as goal

pub returns-in-Ok : goal.returns-in-Ok
returns-in-Ok c = search number_told

pub returns-in-Err : goal.returns-in-Err
returns-in-Err c = search number_refused
