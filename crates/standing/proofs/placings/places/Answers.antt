-- `standing::places` meets its contract. The invariant: the first i snakes have their places. Assumes nothing.
use Rattle.std.proofs.Common.{ℕ, List, ◌≡◌, ap, ◌∙◌, rules}
use Rattle.std.proofs.Math.ListN.{set}
use Rattle.lists.specs.Below.{filled}
use Rattle.lists.proofs.Below.{filled_none, filled_more}
use Rattle.standing.specs.Placings.{end_placing, placings_of}
use Rattle.standing.specs.Standing.{snakes_of}
use Rattle.standing.proofs.placings.places.Goals as goal

pub loop-i-init : goal.loop-i-init
loop-i-init c = let m = c.args.m in (search rules, filled_none (end_placing (snakes_of m) m.deaths m.behind) 8 0)

pub loop-i-preserved : goal.loop-i-preserved
loop-i-preserved c =
    let l = c.loop-i in
    let m = c.args.m in
    let f = end_placing (snakes_of m) m.deaths m.behind in
    (search rules, ap (λ (x : List ℕ). set x l.i c.end_placing.result) l.invariant.1 ∙ rw c.end_placing.ensures (filled_more f l.i 8 0 (search rules)))

pub returns : goal.returns
unfolding placings_of
returns c =
    let m = c.args.m in
    let e : c.loop-i.i ≡ snakes_of m = search rules in
    c.loop-i.invariant.1 ∙ ap (λ (k : ℕ). filled (end_placing (snakes_of m) m.deaths m.behind) k 8 0) e
