-- `flat::event_in` meets its contract: field by field. Assumes nothing.
use Rattle.flat.proofs.readings.event_in.Goals as goal

pub returns : goal.returns
returns c = cc
