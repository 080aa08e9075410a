use native.Mathlib.Omega.{arith}
use Prim.Native.Nat.{ℕ, ◌+◌}
use mathlib.Core.Path.{ap, ◌∙◌}
use lib.ListN.{drop, length-drop}
use Rattle.parsing.specs.Fields.{pieces_from}
use Rattle.parsing.proofs.Cutting.{piece_short, next_none, next_some}
use borrow.Author.Rules.{rules}
use Rattle.parsing.proofs.fields.next_start.Goals as goal

pub returns-then-s-at : goal.returns-then-s-at
returns-then-s-at c = (search rules, next_none 32 c.args.s.now c.args.at c.if-s-at.true)

pub overflow_add-result : goal.overflow_add-result
overflow_add-result c =
    let s = c.args.s.now in
    let at = c.args.at in
    omega (arith, c.piece_end.ensures, piece_short 32 (drop at s), length-drop at s)

pub returns-else-s-at : goal.returns-else-s-at
returns-else-s-at c =
    let s = c.args.s.now in
    let at = c.args.at in
    (omega (arith, c.piece_end.ensures, piece_short 32 (drop at s), length-drop at s), ap (λ (k : ℕ). pieces_from 32 s (k + 1)) c.piece_end.ensures ∙ next_some 32 s at c.if-s-at.false)
