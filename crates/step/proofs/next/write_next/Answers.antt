-- `step::write_next` meets its contract: what is eaten, the apples and the apples left give the room, which is the length of the next image (`Room`).
-- Assumes nothing.
use Rattle.step.proofs.Room.{room_so_far, room_fits, next_29, state_fits, next_done}
use Rattle.step.proofs.next.write_next.Goals as goal

pub overflow_add-room : goal.overflow_add-room
overflow_add-room c = search room_so_far

pub overflow_add-room-2 : goal.overflow_add-room-2
overflow_add-room-2 c = search room_fits

pub returns-then-out-room : goal.returns-then-out-room
returns-then-out-room c = search next_29

pub write_state-requires : goal.write_state-requires
write_state-requires c = search state_fits

pub returns : goal.returns
returns c = search next_done
