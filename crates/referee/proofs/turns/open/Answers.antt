-- `referee::open` meets its contract: where the setting is refused the match stops, and else its image is shown (`Calls`).
-- Assumes nothing.
use borrow.Author.Rules.{rules}
use mathlib.Core.Path.{sym}
use Prim.Native.Nat.{◌≤◌}
use lib.ListN.{length}
use lib.Seq.{length-take-le}
use Rattle.referee.proofs.Calls.{open_words, open_few, open_shows}
use Rattle.referee.proofs.turns.open.Goals as goal

pub slice_bounds-show-end : goal.slice_bounds-show-end
slice_bounds-show-end c = search open_words

pub slice_bounds-show-end-in-Ok : goal.slice_bounds-show-end-in-Ok
slice_bounds-show-end-in-Ok c =
    let l : c.in-Ok.words ≤ length c.initial_state.new.out = search open_words in
    sym (length-take-le _ _ l)

pub show-requires : goal.show-requires
show-requires c = search (rules, open_few)

pub returns-in-Ok : goal.returns-in-Ok
returns-in-Ok c = search open_shows
