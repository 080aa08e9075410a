-- `standing::put_snakes` meets its contract. The invariant: the parts of the first i snakes are written. Assumes nothing.
use Rattle.std.proofs.Common.{◌+◌, ◌*◌, ◌<◌, ◌≡◌, ◌∙◌, get_or, take, rules, arith}
use Rattle.std.proofs.lemmas.List.{length-take, get_or-take, get_or_default}
use Rattle.lists.proofs.Below.{concat_none, concat_next}
use Rattle.printing.proofs.Writing.{both, wider, nothing}
use Rattle.rules.specs.Events.{blank}
use Rattle.standing.proofs.shown.put_snakes.Goals as goal

pub loop-i-init : goal.loop-i-init
loop-i-init c = (search rules, rw concat_none (nothing c.args.out.now c.args.from 0))

pub loop-i-preserved : goal.loop-i-preserved
loop-i-preserved c =
    let l = c.loop-i in
    let i = l.i in
    let a = c.args in
    let lt : i < a.n = omega (arith, length-take a.n a.events) in
    let e : c.event-item.result ≡ get_or a.events i blank = c.event-item.is ∙ get_or_default (take a.n a.events) i c.event-item.result blank c.loop-i-test.true ∙ rw get_or-take in
    let p = rw e at c.put_snake-at.ensures in
    (omega arith, rw concat_next (wider (52 * (i + 1)) (both l.invariant.1 p (omega arith)) (omega arith)))
