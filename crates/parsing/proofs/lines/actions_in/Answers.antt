use Rattle.std.specs.Prelude.{None}
use Prim.Native.Nat.{ℕ, ◌+◌}
use mathlib.Core.Path.{◌≡◌, sym, ap, ◌∙◌}
use mathlib.Core.List.{List}
use mathlib.Core.Bool.{true}
use lib.Dec.{leb-zero}
use lib.Seq.{drop-drop}
use lib.ListN.{set, drop, length}
use native.Mathlib.Omega.{arith}
use Rattle.lists.specs.Below.{all_below, filled}
use Rattle.lists.proofs.Below.{all_none, all_more, all_fails, filled_none, filled_more}
use Rattle.parsing.proofs.Reading.{was_number, no_number}
use Rattle.parsing.proofs.Cutting.{from_at}
use Rattle.parsing.specs.Fields.{field_at, fields_of, pieces_from}
use Rattle.parsing.specs.Numbers.{decimal_of}
use Rattle.parsing.specs.Lines.{is_action, action, actions_in}
use Rattle.parsing.proofs.lines.actions_in.Goals as goal

pub loop-k-init : goal.loop-k-init
loop-k-init c =
    let s = c.args.s.now in
    let e : pieces_from 32 s c.next_start-at.result ≡ drop 1 (fields_of s) = c.next_start-at.ensures.1 ∙ rw (leb-zero (length s)) in
    (record { inside = c.next_start-at.ensures.0; stands = e }, all_none _, filled_none (action (fields_of s)) 8 0)

pub returns : goal.returns
unfolding actions_in
returns c =
    let a = c.args in
    let fs = fields_of a.s.now in
    let l = c.loop-k in
    let e : l.k ≡ a.n = omega arith in
    let t : all_below a.n (is_action fs) ≡ true = ap (λ (j : ℕ). all_below j (is_action fs)) (sym e) ∙ l.invariant.1 in
    let p : l.acts ≡ filled (action fs) a.n 8 0 = l.invariant.2 ∙ ap (λ (j : ℕ). filled (action fs) j 8 0) e in
    rw (t, p)

pub loop-k-preserved : goal.loop-k-preserved
loop-k-preserved c =
    let s = c.args.s.now in
    let fs = fields_of s in
    let l = c.loop-k in
    let g = c.next_number-got.ensures in
    let v = c.in_ok-acts.field-0 in
    let q = was_number (field_at fs (l.k + 1)) v (ap decimal_of (sym (from_at 32 s l.at (l.k + 1) l.invariant.0.stands)) ∙ sym g.number ∙ c.in_ok-acts.was) in (
      record { inside = g.inside; stands = g.onward ∙ ap (λ (x : List (List ℕ)). drop 1 x) l.invariant.0.stands ∙ drop-drop 1 (l.k + 1) fs },
      all_more (is_action fs) l.k l.invariant.1 q.0,
      ap (λ (x : List ℕ). set x l.k v) l.invariant.2 ∙ rw q.1 (filled_more (action fs) l.k 8 0 (omega arith)),
    )

pub returns-in_err-acts : goal.returns-in_err-acts
unfolding actions_in
returns-in_err-acts c =
    let s = c.args.s.now in
    let fs = fields_of s in
    let l = c.loop-k in
    let e : decimal_of (field_at fs (l.k + 1)) ≡ None = ap decimal_of (sym (from_at 32 s l.at (l.k + 1) l.invariant.0.stands)) ∙ sym c.next_number-got.ensures.number ∙ c.in_err-acts.was in
    c.from_residual.ensures ∙ rw (all_fails (is_action fs) c.args.n l.k (omega arith) (no_number (field_at fs (l.k + 1)) e))
