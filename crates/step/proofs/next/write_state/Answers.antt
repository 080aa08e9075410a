-- `step::write_state` meets its contract: four writes, one after the other, are the image of the state (`Words`).
-- Assumes nothing.
use borrow.Author.Rules.{rules}
use Rattle.step.proofs.Words.{bodies_room, food_room, state_written}
use Rattle.step.proofs.next.write_state.Goals as goal

pub write_bodies-at-requires : goal.write_bodies-at-requires
write_bodies-at-requires c = search (rules, bodies_room)

pub write_left-requires : goal.write_left-requires
write_left-requires c = search food_room

pub returns : goal.returns
returns c = search state_written
