-- The three ways out, and a digit more.
use Prim.Native.Nat.{◌-◌}
use mathlib.Core.Bool.{true}
use mathlib.Core.Path.{sym, ◌∙◌, ◌≡◌}
use lib.ListN.{get_or}
use native.Mathlib.Omega.{arith}
use borrow.Author.Rules.{rules}
use Rattle.parsing.specs.Numbers.{is_digit}
use Rattle.parsing.proofs.Reading.{not_digit, too_large, all_read, at_least, at_most, digits_next, read_next}
use Rattle.parsing.proofs.numbers.digits.Goals as goal

pub returns-then-not-is_digit : goal.returns-then-not-is_digit
returns-then-not-is_digit c =
    let l = c.loop-b in
    not_digit c.args.s.now l.b-index (omega arith) l.invariant.1 (sym c.is_digit.ensures ∙ c.if-not-is_digit.true)

pub returns-then-d-v : goal.returns-then-d-v
returns-then-d-v c =
    let s = c.args.s.now in
    let l = c.loop-b in
    let b = get_or s l.b-index 0 in
    let d : is_digit b ≡ true = sym c.is_digit.ensures ∙ c.if-not-is_digit.false in
    let w : c.from-d.result ≡ b - 48 = search rules in
    too_large s l.b-index l.v (omega arith) l.invariant.2 (omega (arith, at_least b d, at_most b d, w, c.if-d-v.true))

pub loop-b-preserved : goal.loop-b-preserved
loop-b-preserved c =
    let s = c.args.s.now in
    let l = c.loop-b in
    let b = get_or s l.b-index 0 in
    let d : is_digit b ≡ true = sym c.is_digit.ensures ∙ c.if-not-is_digit.false in
    let w : c.from-d.result ≡ b - 48 = search rules in
    (omega (arith, at_least b d, at_most b d, w), sym (digits_next s l.b-index (omega arith) d) ∙ l.invariant.1, rw w (sym (read_next s l.b-index l.v (omega arith)) ∙ l.invariant.2))

pub returns : goal.returns
returns c =
    let l = c.loop-b in
    all_read c.args.s.now l.b-index l.v (omega arith) l.invariant.1 l.invariant.2 l.invariant.0
