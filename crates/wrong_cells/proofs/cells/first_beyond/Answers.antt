-- `wrong_cells::first_beyond` meets its contract. The invariant: no word from the records' end up to k is g² or more (`Beyond`).
-- Assumes nothing.
use Prim.Native.Nat.{◌≤◌}
use native.Mathlib.Omega.{arith}
use lib.ListN.{length}
use Rattle.wrong_cells.proofs.Finding.{beyond_from, beyond_here, beyond_on, beyond_none}
use Rattle.wrong_cells.proofs.cells.first_beyond.Goals as goal

pub loop-k-init : goal.loop-k-init
loop-k-init c = search beyond_from

pub returns-then-g-image : goal.returns-then-g-image
returns-then-g-image c = search beyond_here

pub loop-k-preserved : goal.loop-k-preserved
loop-k-preserved c = search beyond_on

pub returns : goal.returns
returns c =
    let within : c.loop-k.k ≤ length c.args.image.now = omega (arith, c.requires.long.records_in) in
    search beyond_none
