-- `chance::write_next` meets its contract: the image copied and words 0 to 4 written anew, the part past the bodies is the food with room behind it,
-- and the food grown there makes the next words (`NextImage`). Assumes nothing.
use Rattle.chance.proofs.NextImage.{food_grows, next_written}
use Rattle.chance.proofs.next.write_next.Goals as goal

pub returns : goal.returns
returns c = search next_written

pub put_all-requires : goal.put_all-requires
put_all-requires c =
    let grown = food_grows _ c.args.due c.args.birth _ _ c.requires _ _ c.write_at.ensures c.write_contents.ensures in
    record { cells_in_bounds = grown.0; fresh = grown.1 }
