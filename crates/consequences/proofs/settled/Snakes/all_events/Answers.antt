-- `consequences::Snakes::all_events` meets its contract: the invariant says that the snakes passed have their events and the places after them are blank (`Laws`).
-- Assumes nothing.
use Rattle.consequences.proofs.Laws.{events_none, events_next}
use Rattle.consequences.proofs.settled.Snakes.all_events.Goals as goal

pub loop-i-init : goal.loop-i-init
loop-i-init c = search events_none

pub loop-i-preserved : goal.loop-i-preserved
loop-i-preserved c = search events_next
