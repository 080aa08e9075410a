-- `strips::nth_free` meets its contract. The invariant: the free squares from strip s on, l of them passed over, end where all of them do (`Scanning`); each way
-- through a turn is one law of `Finding`. Assumes nothing.
use native.Mathlib.Omega.{arith}
use Rattle.strips.proofs.Finding.{scan_none, scan_room, scan_hit, scan_on, scan_end}
use Rattle.strips.proofs.finds.nth_free.Goals as goal

pub loop-s-init : goal.loop-s-init
loop-s-init c = scan_none _ _ _ c.requires.room

pub nth_in-requires : goal.nth_in-requires
nth_in-requires c = scan_room _ _ _ _ _ c.loop-s.invariant _ c.requires.counted _ c.from-here.ensures c.if-left-here.true

pub returns-then-left-here : goal.returns-then-left-here
returns-then-left-here c = scan_hit _ _ _ _ _ c.loop-s.invariant _ c.requires.counted _ c.from-here.ensures _ c.if-left-here.true c.nth_in.ensures

pub loop-s-preserved : goal.loop-s-preserved
loop-s-preserved c = scan_on _ _ _ _ _ c.loop-s.invariant _ c.requires.counted _ c.from-here.ensures c.if-left-here.false

pub returns : goal.returns
returns c = scan_end _ _ _ _ _ c.loop-s.invariant _ c.requires.counted (omega (arith, c.told-tally, c.loop-s-test.false))
