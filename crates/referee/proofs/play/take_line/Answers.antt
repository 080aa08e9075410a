-- `referee::take_line` meets its contract: a line that stops leaves the desk's image, one that goes on writes the next over it (`Lines`).
-- Assumes nothing.
use borrow.Author.Rules.{rules}
use mathlib.Core.Bool.{false, not}
use mathlib.Core.Path.{◌≡◌, sym}
use Prim.Native.Nat.{◌≤◌}
use lib.ListN.{length}
use lib.Seq.{length-take-le}
use Rattle.referee.proofs.Lines.{desk_stays, desk_words, desk_room, desk_moves}
use Rattle.referee.proofs.play.take_line.Goals as goal

-- the next image fits where the desk's image stands
pub write_at-requires : goal.write_at-requires
write_at-requires c = desk_room _ _ _ _ _ _ _ _ _ _ c.ask-t.ensures c.requires.1

pub returns-then-not-t : goal.returns-then-not-t
returns-then-not-t c = search desk_stays

pub slice_bounds-write_at-end : goal.slice_bounds-write_at-end
slice_bounds-write_at-end c = search (rules, desk_words)

pub slice_bounds-write_at-end-2 : goal.slice_bounds-write_at-end-2
slice_bounds-write_at-end-2 c =
    let l : c.ask-t.result.words ≤ length c.ask-t.new.next = search (rules, desk_words) in
    sym (length-take-le _ _ l)

pub returns : goal.returns
returns c =
    let more : not c.ask-t.result.more ≡ false = search in
    desk_moves _ _ _ _ _ _ _ _ _ _ c.ask-t.ensures c.requires.1 more _ c.write_at.ensures
