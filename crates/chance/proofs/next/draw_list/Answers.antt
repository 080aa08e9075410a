-- `chance::draw_list` meets its contract: the index's digits over the list, each of which gives way to the cell that it picks, are the draw (`list_drawn`).
-- Assumes nothing.
use borrow.Author.Rules.{rules}
use Rattle.strips.proofs.Counting.{tally_blank}
use Rattle.chance.proofs.Bounds.{left_most, list_pickable, list_drawn}
use Rattle.chance.proofs.next.draw_list.Goals as goal

pub split-requires : goal.split-requires
split-requires c = search (rules, left_most)

pub count_strips-requires : goal.count_strips-requires
count_strips-requires c = search (rules, tally_blank)

pub pick_cells-requires : goal.pick_cells-requires
pick_cells-requires c = search list_pickable

pub returns : goal.returns
returns c = search list_drawn
