use native.Mathlib.Omega.{arith}
use Prim.Native.Nat.{ℕ, ◌+◌, ◌-◌, ◌≤◌}
use mathlib.Core.Path.{◌≡◌, sym, ap, ◌∙◌}
use lib.Seq.{drop-length, take-nil}
use lib.ListN.{length, drop, take, length-drop}
use Rattle.parsing.specs.Fields.{up_to}
use Rattle.parsing.proofs.Cutting.{piece_short, piece_front, from_first, from_none, from_at}
use borrow.Author.Rules.{rules}
use Rattle.parsing.proofs.fields.field.Goals as goal

pub returns-then-s-at : goal.returns-then-s-at
returns-then-s-at c =
    let s = c.args.s.now in
    let k = c.args.k in
    let at = c.start_of-at.result in
    record { ordered = search rules; inside = search rules; says = rw (drop-length, take-nil) (sym (from_none 32 s at c.if-s-at.true) ∙ from_at 32 s at k c.start_of-at.ensures.1) }

pub returns-else-s-at : goal.returns-else-s-at
returns-else-s-at c =
    let s = c.args.s.now in
    let k = c.args.k in
    let at = c.start_of-at.result in
    let n = length (up_to 32 (drop at s)) in
    let e : c.piece_end.result ≡ at + n = c.piece_end.ensures in
    let h : at ≤ length s = c.if-s-at.false in
    let b = piece_short 32 (drop at s) in
    let d = length-drop at s in
    let m : c.piece_end.result - at ≡ n = omega arith in
    record { ordered = omega arith; inside = omega arith; says = ap (λ (j : ℕ). take j (drop at s)) m ∙ piece_front 32 (drop at s) ∙ sym (from_first 32 s at h) ∙ from_at 32 s at k c.start_of-at.ensures.1 }
