-- `referee::play_draw` meets its contract: where the draw is refused the match stops, and else its image is shown (`Calls`).
-- Assumes nothing.
use borrow.Author.Rules.{rules}
use mathlib.Core.Path.{sym}
use Prim.Native.Nat.{◌≤◌}
use lib.ListN.{length}
use lib.Seq.{length-take-le}
use Rattle.referee.proofs.Calls.{draw_words, draw_few, draw_shows}
use Rattle.referee.proofs.turns.play_draw.Goals as goal

pub slice_bounds-show-end : goal.slice_bounds-show-end
slice_bounds-show-end c = search draw_words

pub slice_bounds-show-end-in-Ok : goal.slice_bounds-show-end-in-Ok
slice_bounds-show-end-in-Ok c =
    let l : c.in-Ok.drawn.words ≤ length c.draw.new.out = search draw_words in
    sym (length-take-le _ _ l)

pub show-requires : goal.show-requires
show-requires c = search (rules, draw_few)

pub returns-in-Ok : goal.returns-in-Ok
returns-in-Ok c = search draw_shows
