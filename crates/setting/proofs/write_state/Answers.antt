-- `setting::write_state` meets its contract: 29 where the image is longer than the buffer, else the words of the initial state, which fit (`Starting`).
-- Assumes nothing.
use Rattle.setting.proofs.Starting.{starts_short, fits, starts_done}
use Rattle.setting.proofs.write_state.Goals as goal

pub returns-then-out-words : goal.returns-then-out-words
returns-then-out-words c = search starts_short

pub write_start-requires : goal.write_start-requires
write_start-requires c = search fits

pub returns : goal.returns
returns c = search starts_done
