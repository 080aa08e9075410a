-- `chance::draw_into` meets its contract: what it may go by is `Ready`, and the list, what stays due and the next image are the definition's (`Drawing`).
-- Assumes nothing.
use borrow.Author.Rules.{rules}
use Rattle.chance.proofs.Drawing.{strips_open, part_few, growing, draw_done}
use Rattle.chance.proofs.next.draw_into.Goals as goal

pub draw_list-requires : goal.draw_list-requires
draw_list-requires c = search (rules, strips_open, part_few)

pub write_next-requires : goal.write_next-requires
write_next-requires c = search (rules, growing)

pub returns : goal.returns
returns c = search draw_done
