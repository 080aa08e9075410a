-- `referee::close` meets its contract: the placings of a match that has begun, or 32 (`Lines`).
-- Assumes nothing.
use mathlib.Core.Path.{◌∙◌}
use Rattle.referee.proofs.Lines.{close_ends, close_refuses}
use Rattle.referee.proofs.play.close.Goals as goal

pub returns-then-d : goal.returns-then-d
returns-then-d c = search close_ends

pub returns : goal.returns
returns c = close_refuses _ _ _ _ c.if-d.false c.from.result (c.from.ensures ∙ c.number.ensures) c.put_refusal.ensures
