-- `consequences::Snakes::all_events` meets its contract: the invariant says that the snakes passed have their events and the places after them are blank (`Laws`).
-- Assumes nothing.
use Rattle.judge.specs.Loops.{Filling}
use Rattle.rules.specs.Events.{blank}
use Rattle.consequences.specs.After.{event_at}
use Rattle.consequences.proofs.settled.Snakes.all_events.Given as goal

abbrev pub invariant-loop-i : goal.invariant-loop-i
invariant-loop-i l = Filling (event_at l.self.all l.to l.self.count l.counts.alive l.counts.deaths l.leader) blank l.self.count l.i l.told
