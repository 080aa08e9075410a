-- `stream::take_all` meets its contract. The invariant: the buffers are ready, and what was taken so far was taken step by step. The measure is what is
-- left of the part. Assumes nothing.
use borrow.Author.Rules.{rules}
use native.Mathlib.Omega.{arith}
use mathlib.Core.Path.{refl, sym, ◌∙◌}
use mathlib.Core.Bool.{true≢false}
use mathlib.Core.List.{[], ◌++◌}
use lib.ListN.{take, drop_of_length-le}
use Rattle.stream.specs.Steps.{none, more}
use Rattle.stream.proofs.Taking.{printed_or_not}
use Rattle.stream.proofs.take_all.Goals as goal

pub loop-r-init : goal.loop-r-init
loop-r-init c =
    let p = c.requires in
    (record { held = p.held; wide = p.wide; words = p.words; room = p.room }, record { room = refl; cells = refl; text = omega arith }, record { said = []; steps = none }, refl, refl, refl)

pub take_part-r-requires : goal.take_part-r-requires
take_part-r-requires c =
    let l = c.loop-r in
    record { ready = (l.invariant.0, l.invariant.1); at_in_bounds = c.if-r-part.true }

pub loop-r-preserved : goal.loop-r-preserved
loop-r-preserved c =
    let l = c.loop-r in
    let t = c.take_part-r in
    let p = t.ensures.ready_2.0 in (
      record { held = p.held; wide = p.wide; words = p.words; room = p.room },
      t.ensures.ready_2.1,
      record { said = l.invariant.2.said ++ take t.result.text t.new.out; steps = more t.new.out l.invariant.2.steps c.loop-r-test.true (printed_or_not c.print.result t.ensures.step) },
      search rules,
      search rules,
      search rules,
    )

pub returns-else-r-part : goal.returns-else-r-part
returns-else-r-part c =
    let l = c.loop-r in
    let taken = l.invariant.2 in
    record { ready = l.invariant.0; takes_all = record { said = taken.said; steps = taken.steps; past = λ o. drop_of_length-le c.args.part.now c.if-r-part.false } }

pub returns-after-loop-r : goal.returns-after-loop-r
returns-after-loop-r c =
    let l = c.loop-r in
    let taken = l.invariant.2 in
    record { ready = l.invariant.0; takes_all = record { said = taken.said; steps = taken.steps; past = λ o. absurd (true≢false (sym o ∙ c.loop-r-test.false)) } }
