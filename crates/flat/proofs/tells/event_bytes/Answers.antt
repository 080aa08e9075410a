-- `flat::event_bytes` meets its contract: byte by byte (`Told`). Assumes nothing.
use Rattle.flat.proofs.Told.{event_told}
use Rattle.flat.proofs.tells.event_bytes.Goals as goal

pub returns : goal.returns
returns c = search event_told
