use Prim.Native.Nat.{ℕ}
use mathlib.Core.Path.{◌≡◌, ap, ◌∙◌}
use mathlib.Core.List.{List}
use lib.Seq.{drop-drop}
use lib.Dec.{leb-zero}
use lib.ListN.{drop, length}
use Rattle.parsing.specs.Fields.{fields_of}
use native.Mathlib.Omega.{arith}
use borrow.Author.Rules.{rules}
use Rattle.parsing.proofs.fields.start_of.Goals as goal

pub loop-init : goal.loop-init
loop-init c = (search rules, rw (leb-zero (length c.args.s.now)))

pub loop-preserved : goal.loop-preserved
loop-preserved c =
    let s = c.args.s.now in
    let l = c.loop in
    (c.next_start-at.ensures.0, c.next_start-at.ensures.1 ∙ ap (λ (x : List (List ℕ)). drop 1 x) l.invariant.1 ∙ drop-drop 1 l.counter (fields_of s))

pub returns : goal.returns
returns c =
    let s = c.args.s.now in
    let l = c.loop in
    let e : l.counter ≡ c.args.k = omega arith in
    (l.invariant.0, l.invariant.1 ∙ ap (λ (n : ℕ). drop n (fields_of s)) e)
