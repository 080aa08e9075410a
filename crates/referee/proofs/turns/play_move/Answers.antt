-- `referee::play_move` meets its contract: where the step is refused the match stops, and else its image is shown (`Calls`).
-- Assumes nothing.
use borrow.Author.Rules.{rules}
use mathlib.Core.Path.{sym}
use Prim.Native.Nat.{◌≤◌}
use lib.ListN.{length}
use lib.Seq.{length-take-le}
use Rattle.referee.proofs.Calls.{move_words, move_few, move_shows}
use Rattle.referee.proofs.turns.play_move.Goals as goal

pub slice_bounds-show_move-end : goal.slice_bounds-show_move-end
slice_bounds-show_move-end c = search move_words

pub slice_bounds-show_move-end-in-Ok : goal.slice_bounds-show_move-end-in-Ok
slice_bounds-show_move-end-in-Ok c =
    let l : c.in-Ok.made.words ≤ length c.step.new.out = search move_words in
    sym (length-take-le _ _ l)

pub show_move-requires : goal.show_move-requires
show_move-requires c = search (rules, move_few)

pub returns-in-Ok : goal.returns-in-Ok
returns-in-Ok c = search move_shows
