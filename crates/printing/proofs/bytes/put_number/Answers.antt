use Rattle.printing.proofs.Writing.{written, digits_are, digits_short, few}
use native.Mathlib.Omega.{arith}
use Prim.Native.Nat.{ℕ, ◌+◌, ◌≤◌, ◌<◌}
use mathlib.Core.Path.{◌≡◌, ap, ◌∙◌}
use Rattle.lists.specs.Lists.{write_at}
use Rattle.printing.specs.Text.{decimal_text}
use lib.ListN.{length, take}
use mathlib.Core.List.{List}
use borrow.Author.Rules.{rules}
use Rattle.printing.proofs.bytes.put_number.Goals as goal

pub write_at-requires : goal.write_at-requires
write_at-requires c =
    let e = c.decimal-k.ensures in
    let a = c.args in
    let k = c.decimal-k.result in
    let v : a.v < 18446744073709551616 = search rules in
    let m : k ≤ 20 = few k a.v e.len v in
    omega (arith, e.in_bounds.1)

pub overflow_add-result : goal.overflow_add-result
overflow_add-result c =
    let e = c.decimal-k.ensures in
    let a = c.args in
    let k = c.decimal-k.result in
    let v : a.v < 18446744073709551616 = search rules in
    let m : k ≤ 20 = few k a.v e.len v in
    omega arith

pub returns : goal.returns
returns c =
    let e = c.decimal-k.ensures in
    let a = c.args in
    let k = c.decimal-k.result in
    let v : a.v < 18446744073709551616 = search rules in
    let m : k ≤ 20 = few k a.v e.len v in
    let t : take k c.decimal-k.new.out ≡ decimal_text a.v = e.digits ∙ digits_are k 20 a.v e.len m in
    let n : a.at + k ≡ a.at + length (decimal_text a.v) = ap (λ (j : ℕ). a.at + j) (e.in_bounds.1 ∙ ap length t) in
    written 20 (c.write_at.ensures ∙ ap (λ (s : List ℕ). write_at a.out.now a.at s) t) n (digits_short 20 a.v) (omega arith)
