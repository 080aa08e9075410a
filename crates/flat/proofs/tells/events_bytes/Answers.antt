-- `flat::events_bytes` meets its contract: event by event (`Told`). Assumes nothing.
use Rattle.std.proofs.Common.{◌≡◌, length, rules, arith}
use Rattle.flat.proofs.Told.{events_told, place_told}
use Rattle.flat.proofs.tells.events_bytes.Goals as goal

pub returns : goal.returns
returns c =
    let es = c.args.e in
    let long : length es ≡ 8 = search rules in
    events_told es _ _ _ _ _ _ _ _
    (place_told es long 0 (omega arith) _ _ c.event_bytes.ensures)
    (place_told es long 1 (omega arith) _ _ c.event_bytes-2.ensures)
    (place_told es long 2 (omega arith) _ _ c.event_bytes-3.ensures)
    (place_told es long 3 (omega arith) _ _ c.event_bytes-4.ensures)
    (place_told es long 4 (omega arith) _ _ c.event_bytes-5.ensures)
    (place_told es long 5 (omega arith) _ _ c.event_bytes-6.ensures)
    (place_told es long 6 (omega arith) _ _ c.event_bytes-7.ensures)
    (place_told es long 7 (omega arith) _ _ c.event_bytes-8.ensures)
