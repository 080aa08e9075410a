use Rattle.stream.specs.Steps.{stopped, nothing, last}
use mathlib.Core.Path.{refl}
use borrow.Author.Tests.{not-true, not-false}
use native.Mathlib.Nat.{pos_of_ne-zero}
use Rattle.stream.proofs.take_last.Goals as goal

pub returns : goal.returns
returns c =
    let r = c.args.r in
    let k = c.take_held in
    record { ready = k.ensures.ready; last = last (not-false c.args.r.on c.if-not-r.false) (pos_of_ne-zero c.if-r-eq0.false) k.ensures.takes }

pub returns-then-not-r : goal.returns-then-not-r
returns-then-not-r c =
    let p = c.requires in
    let e = not-true c.args.r.on c.if-not-r.true in
    record {
      ready = (record { held = p.0.held; wide = p.0.wide; words = p.0.words; room = p.0.room }, p.1);
      last = stopped e e refl refl;
    }

pub returns-then-r-eq0 : goal.returns-then-r-eq0
returns-then-r-eq0 c =
    let p = c.requires in
    record {
      ready = (record { held = p.0.held; wide = p.0.wide; words = p.0.words; room = p.0.room }, p.1);
      last = nothing c.if-r-eq0.true refl refl refl refl;
    }
