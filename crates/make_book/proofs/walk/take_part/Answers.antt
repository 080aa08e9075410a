-- `make_book::walk::take_part` meets its contract: the stream's step keeps its buffers ready, and reads on. Assumes nothing.
use Rattle.std.proofs.Common.{refl, arith, rules}
use Rattle.make_book.proofs.walk.take_part.Goals as goal

pub loop-next-init : goal.loop-next-init
loop-next-init c =
    let p = c.requires in
    (record { held = p.held; wide = p.wide; words = p.words; room = p.room }, record { room = refl; cells = refl; text = omega arith }, refl, refl, refl, refl)

pub take_part-r-requires : goal.take_part-r-requires
take_part-r-requires c =
    let l = c.loop-next in
    record { ready = (l.invariant.0, l.invariant.1); at_in_bounds = c.if-r-part.true }

pub see-t-requires : goal.see-t-requires
see-t-requires c = record { words_in_bounds = c.take_part-r.ensures.ready_2.0.words }

pub loop-next-smaller : goal.loop-next-smaller
loop-next-smaller c = omega (arith, c.if-r-part.true, c.take_part-r.ensures.at_lt_at)

pub loop-next-preserved : goal.loop-next-preserved
loop-next-preserved c =
    let k = c.take_part-r in
    (k.ensures.ready_2.0, k.ensures.ready_2.1, search rules, search rules, search rules, search rules)

pub returns : goal.returns
returns c = c.loop-next.invariant.0
