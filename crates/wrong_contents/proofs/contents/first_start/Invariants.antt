-- `wrong_contents::first_start` meets its contract. The invariant: `due` is where snake i is due, and the starts before it fit (`AddsTo`).
-- Assumes nothing.
use mathlib.Core.Bool.{true}
use Rattle.wellformed.proofs.Loops.{AddsTo}
use Rattle.wrong_contents.proofs.contents.first_start.Given as goal

abbrev pub invariant-loop-i : goal.invariant-loop-i
invariant-loop-i l = AddsTo l.image l.due true l.i
