-- `flat::events_in` meets its contract: event by event (`Matches`); the nearer place is bound first. Assumes nothing.
use Rattle.flat.proofs.Matches.{events_read}
use Rattle.flat.proofs.games.events_in.Goals as goal

pub returns : goal.returns
returns c =
    events_read _ _ _ _ _ _ _ _ _ c.event_in.ensures c.event_in-2.ensures c.event_in-3.ensures c.event_in-4.ensures
    c.event_in-5.ensures c.event_in-6.ensures c.event_in-7.ensures c.event_in-8.ensures
