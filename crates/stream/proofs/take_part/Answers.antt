use mathlib.Core.Path.{◌≡◌, refl}
use Prim.Native.Nat.{◌+◌}
use lib.ListN.{length}
use Rattle.stream.proofs.Taking.{step_waits, step_takes}
use Rattle.stream.proofs.take_part.Goals as goal

pub returns-then-end-part-clause-step : goal.returns-then-end-part-clause-step
returns-then-end-part-clause-step c =
    let a = c.args in
    let p = c.requires in
    let k = c.feed-fill in
    let l = c.line_end-end in
    let e : l.result ≡ length a.part.now = c.if-end-part.true in
    step_waits a.r a.part.now a.line.now k.new.line a.image.now l.result k.result l.ensures.0 p.at_in_bounds k.ensures _ a.out.now e refl refl refl refl refl

pub returns-clause-step : goal.returns-clause-step
returns-clause-step c =
    let a = c.args in
    let p = c.requires in
    let k = c.feed-fill in
    let l = c.line_end-end in
    let t = c.take_held in
    let e : t.result.at ≡ l.result + 1 = t.ensures.at_value in
    step_takes a.r a.part.now a.line.now k.new.line a.image.now l.result k.result l.ensures.0 p.at_in_bounds k.ensures l.ensures.2 c.if-end-part.false e refl refl t.ensures.takes
