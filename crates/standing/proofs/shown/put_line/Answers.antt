use native.Mathlib.Omega.{arith}
use Rattle.standing.specs.Shown.{line_shown}
use Rattle.printing.proofs.Writing.{both}
use Rattle.standing.proofs.shown.put_line.Goals as goal

pub returns : goal.returns
unfolding line_shown
returns c =
    let h = rw (c.word_at-due.ensures, c.word_at-food.ensures) at c.put_head-i.ensures in
    both (both h c.put_snakes-j.ensures (omega arith)) c.put.ensures (omega arith)
