-- The directions that are left do not change while a shut one is passed.
use native.Mathlib.Nat.{lt_irrefl}
use native.Mathlib.Omega.{arith}
use mathlib.Core.Path.{◌≡◌, sym, ap, ◌∙◌}
use mathlib.Core.Bool.{true, false}
use mathlib.Core.List.{List}
use lib.IntN.{pos}
use lib.ListN.{get_or}
use Rattle.rules.specs.Grid.{ahead, inside}
use Rattle.rules.specs.Placement.{tracing}
use Rattle.rules.specs.declared.Heading.{Heading}
use Rattle.rules.specs.declared.Heading.TheVariants.{Up}
use Rattle.rules.specs.declared.Place.{Place}
use Rattle.placement.proofs.Walks.{walk_open, walk_shut, walk_end}
use Rattle.placement.proofs.trace.walk_on.Goals as goal

pub returns-then-on_grid : goal.returns-then-on_grid
returns-then-on_grid c =
    let a = c.args in
    let t = c.loop-turn-test.true in
    let q : c.ahead-next.result ≡ ahead (get_or (tracing a.even) c.loop-turn.turn Up) a.from.place =
    c.ahead-next.ensures ∙ ap (λ (l : List Heading). ahead (get_or l c.loop-turn.turn Up) a.from.place) c.directions-directions.ensures in
    let i : inside (pos a.g) c.ahead-next.result ≡ true = sym c.on_grid.ensures ∙ c.if-on_grid.true in (
      t,
      record {
        most = omega arith;
        left = c.loop-turn.invariant ∙ walk_open (pos a.g) a.even a.from.place c.loop-turn.turn t (ap (λ (p : Place). inside (pos a.g) p) (sym q) ∙ i);
        step = λ _. q;
        within = λ _. i;
      },
    )

pub loop-turn-preserved : goal.loop-turn-preserved
loop-turn-preserved c =
    let a = c.args in
    let q : c.ahead-next.result ≡ ahead (get_or (tracing a.even) c.loop-turn.turn Up) a.from.place =
    c.ahead-next.ensures ∙ ap (λ (l : List Heading). ahead (get_or l c.loop-turn.turn Up) a.from.place) c.directions-directions.ensures in
    let i : inside (pos a.g) c.ahead-next.result ≡ false = sym c.on_grid.ensures ∙ c.if-on_grid.false in
    c.loop-turn.invariant ∙ walk_shut (pos a.g) a.even a.from.place c.loop-turn.turn c.loop-turn-test.true (ap (λ (p : Place). inside (pos a.g) p) (sym q) ∙ i)

pub returns : goal.returns
returns c =
    let a = c.args in
    record {
      most = omega arith;
      left = c.loop-turn.invariant ∙ walk_end (pos a.g) a.even a.from.place c.loop-turn.turn c.loop-turn-test.false;
      step = λ h. absurd (lt_irrefl 4 h);
      within = λ h. absurd (lt_irrefl 4 h);
    }
