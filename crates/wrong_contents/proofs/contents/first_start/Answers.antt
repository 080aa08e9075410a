-- `wrong_contents::first_start` meets its contract. The invariant: `due` is where snake i is due, and the starts before it fit (`AddsTo`).
-- Assumes nothing.
use Rattle.wellformed.proofs.Loops.{adds_none}
use Rattle.wrong_contents.proofs.Finding.{start_here, start_on, start_none}
use Rattle.wrong_contents.proofs.contents.first_start.Goals as goal

pub loop-i-init : goal.loop-i-init
loop-i-init c = search adds_none

pub returns-then-image-start_at : goal.returns-then-image-start_at
returns-then-image-start_at c = search start_here

pub loop-i-preserved : goal.loop-i-preserved
loop-i-preserved c = start_on _ _ _ (search) (search) _ c.start_at.ensures (search) _ c.length_at.ensures

pub returns : goal.returns
returns c = search start_none
