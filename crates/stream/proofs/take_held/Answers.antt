use Rattle.referee.proofs.Playing.{words_fit}
use Rattle.stream.proofs.Taking.{took_held}
use lib.ListN.{length}
use mathlib.Core.Path.{◌≡◌, refl}
use native.Mathlib.Omega.{arith}
use borrow.Author.Rules.{rules}
use Rattle.stream.proofs.take_held.Goals as goal

pub returns-clause-ready : goal.returns-clause-ready
returns-clause-ready c =
    let a = c.args in
    let r = c.requires in
    let k = c.take_line-t in
    let w = words_fit _ _ _ _ _ _ _ k.ensures in
    let n : length k.new.next ≡ length a.next.now = search rules in
    let l : length k.new.list ≡ length a.list.now = search rules in
    (record { held = omega arith; wide = r.0.wide; words = w; room = omega (arith, k.ensures.long, r.0.room) }, record { room = omega (arith, r.1.room); cells = omega (arith, r.1.cells); text = omega (arith, k.ensures.text.long, r.1.text) })

pub returns-clause-takes : goal.returns-clause-takes
returns-clause-takes c =
    let a = c.args in
    let r = c.requires in
    let k = c.take_line-t in
    record {
      turned = k.result;
      took = took_held a.r a.line.now a.image.now k.new.image a.next.now a.list.now a.out.now k.new.out k.result r.0 r.1 k.ensures;
      desk = refl;
      fill = refl;
      on = refl;
    }
