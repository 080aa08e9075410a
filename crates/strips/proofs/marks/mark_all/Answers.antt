-- `strips::mark_all` meets its contract. The invariant: the fours that are passed have their marks (`Adds`). Assumes nothing.
use mathlib.Core.Path.{◌≡◌}
use native.Mathlib.Omega.{arith}
use Prim.Native.Nat.{◌<◌, ◌/◌}
use lib.ListN.{length}
use Rattle.strips.proofs.Strips.{adds_none, four_in, four_long, fours_next, fours_all}
use Rattle.strips.proofs.marks.mark_all.Goals as goal

pub loop-four-init : goal.loop-four-init
loop-four-init c = adds_none c.args.cells.now c.args.strips.now c.requires.strips_len

pub mark_four-requires-clause-under : goal.mark_four-requires-clause-under
mark_four-requires-clause-under c =
    let a = c.args.cells.now in
    let i = c.loop-four.four-index in
    let f = c.as_chunks.ensures in
    let h : i < length a / 4 = omega (arith, f.front_len, c.loop-four-test.true) in
    (four_in a c.as_chunks.result.0.now f.front i h c.requires.under, four_long a c.as_chunks.result.0.now f.front i h)

pub loop-four-preserved : goal.loop-four-preserved
loop-four-preserved c =
    let a = c.args.cells.now in
    let i = c.loop-four.four-index in
    let f = c.as_chunks.ensures in
    let h : i < length a / 4 = omega (arith, f.front_len, c.loop-four-test.true) in
    fours_next a c.as_chunks.result.0.now f.front i h _ _ _ c.loop-four.invariant c.mark_four.ensures

pub returns : goal.returns
returns c =
    let a = c.args.cells.now in
    let i = c.loop-four.four-index in
    let f = c.as_chunks.ensures in
    let h : length a / 4 ≡ i = omega (arith, f.front_len, c.loop-four-test.false, c.loop-four.auto) in
    fours_all a i c.as_chunks.result.1.now _ _ _ h f.back c.loop-four.invariant c.mark_each.ensures
