use native.Mathlib.Omega.{arith}
use Prim.Native.Nat.{ℕ, ◌+◌, ◌-◌, ◌≤◌}
use mathlib.Core.Path.{◌≡◌, sym, ap, ◌∙◌}
use Rattle.parsing.proofs.Reading.{decimal_none}
use Rattle.parsing.specs.Numbers.{decimal_of}
use lib.ListN.{length, take, drop, length-drop}
use Rattle.parsing.specs.Fields.{up_to, pieces_from}
use Rattle.parsing.proofs.Cutting.{piece_short, piece_front, from_first, from_none, next_none, next_some}
use borrow.Author.Rules.{rules}
use Rattle.parsing.proofs.lines.next_number.Goals as goal

pub returns-then-s-at : goal.returns-then-s-at
returns-then-s-at c =
    let s = c.args.s.now in
    let at = c.args.at in
    record { number = sym (ap decimal_of (from_none 32 s at c.if-s-at.true) ∙ decimal_none); onward = next_none 32 s at c.if-s-at.true; inside = search rules }

pub slice_bounds-decimal-end : goal.slice_bounds-decimal-end
slice_bounds-decimal-end c =
    let s = c.args.s.now in
    let at = c.args.at in
    let k = length (up_to 32 (drop at s)) in
    let e : c.piece_end-end.result ≡ at + k = c.piece_end-end.ensures in
    let l = piece_short 32 (drop at s) in
    let d = length-drop at s in
    search (rules, e, l, d)

pub overflow_add-result : goal.overflow_add-result
overflow_add-result c =
    let s = c.args.s.now in
    let at = c.args.at in
    let k = length (up_to 32 (drop at s)) in
    let e : c.piece_end-end.result ≡ at + k = c.piece_end-end.ensures in
    let l = piece_short 32 (drop at s) in
    let d = length-drop at s in
    omega arith

pub returns : goal.returns
returns c =
    let s = c.args.s.now in
    let at = c.args.at in
    let k = length (up_to 32 (drop at s)) in
    let e : c.piece_end-end.result ≡ at + k = c.piece_end-end.ensures in
    let l = piece_short 32 (drop at s) in
    let d = length-drop at s in
    let h : at ≤ length s = c.if-s-at.false in
    let m : c.piece_end-end.result - at ≡ k = omega arith in
    record {
      number = c.decimal-num.ensures ∙ ap decimal_of (ap (λ (j : ℕ). take j (drop at s)) m ∙ piece_front 32 (drop at s) ∙ sym (from_first 32 s at h));
      onward = ap (λ (j : ℕ). pieces_from 32 s (j + 1)) e ∙ next_some 32 s at h;
      inside = omega arith;
    }
