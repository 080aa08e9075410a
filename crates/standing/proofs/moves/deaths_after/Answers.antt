-- `standing::deaths_after` meets its contract: the table says of each snake what `death_at` does (`Tables`). Assumes nothing.
use Rattle.std.proofs.Common.{rules, arith}
use Rattle.standing.specs.Standing.{death_at}
use Rattle.standing.proofs.Tables.{filled_full}
use Rattle.standing.proofs.moves.deaths_after.Goals as goal

pub returns : goal.returns
returns c = filled_full (death_at c.args.k c.args.deaths c.args.events.now) 8 0 c.loop-i.after (search rules) (λ i h. c.loop-i.invariant.below i (omega arith))
