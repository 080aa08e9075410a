-- `standing::put_snake` meets its contract: body, colon and events, written one after the other (`Showing`). Assumes nothing.
use Rattle.standing.proofs.Showing.{snake_shown_lem}
use Rattle.standing.proofs.shown.put_snake.Goals as goal

pub returns : goal.returns
returns c = search snake_shown_lem
