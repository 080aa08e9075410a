-- The place of the byte behind the start, or the end of the bytes.
use Prim.Native.Nat.{ℕ, ◌-◌, ◌≤◌}
use mathlib.Core.Path.{◌≡◌, refl, sym, ap, ◌∙◌}
use mathlib.Core.Bool.{Bool, true, false, cond}
use mathlib.Core.List.{List}
use native.Mathlib.Nat.{le_of_eq}
use native.Mathlib.Omega.{arith}
use borrow.Author.Tests.{ltb-false}
use lib.Dec.{eqb, ltb}
use lib.ListN.{length, drop, take, length-drop}
use lib.Seq.{take_all}
use Rattle.std.proofs.Common.{Some, None}
use Rattle.std.specs.List.{position, position_or_len}
use Rattle.parsing.specs.Fields.{up_to}
use Rattle.parsing.proofs.Cutting.{piece_place, piece_short}
use Rattle.parsing.proofs.fields.piece_end.Goals as goal

some_by : (t : Bool) (n k : ℕ) → cond t (Some n) None ≡ Some k → k ≡ n
some_by true n k e = cc
some_by false n k e = cc

none_by : (t : Bool) (n : ℕ) → cond t (Some n) None ≡ None → t ≡ false
none_by true n e = cc
none_by false n e = refl

module _ (b : ℕ) (l : List ℕ) where
  found : (k : ℕ) → position (λ x. eqb x b) l ≡ Some k → length (up_to b l) ≡ k
  found k e = piece_place b l ∙ sym (some_by _ (position_or_len (λ x. eqb x b) l) k e)

  nowhere : position (λ x. eqb x b) l ≡ None → length (up_to b l) ≡ length l
  nowhere e =
      let p = position_or_len (λ (x : ℕ). eqb x b) l in
      let h : length l ≤ p = ltb-false p (length l) (none_by (ltb p (length l)) p e) in
      omega (arith, piece_place b l, piece_short b l)

pub returns-in-Some : goal.returns-in-Some
returns-in-Some c =
    let a = c.args in
    let s = a.s.now in
    let r = take (length s - a.from) (drop a.from s) in
    let same : r ≡ drop a.from s = take_all (length s - a.from) (drop a.from s) (le_of_eq (length-drop a.from s)) in
    omega (arith, found a.b (drop a.from s) c.in-Some.k (ap (λ (l : List ℕ). position (λ (x : ℕ). eqb x a.b) l) (sym same) ∙ sym c.place_of.ensures ∙ c.in-Some.is))

pub returns-in-None : goal.returns-in-None
returns-in-None c =
    let a = c.args in
    let s = a.s.now in
    let r = take (length s - a.from) (drop a.from s) in
    let same : r ≡ drop a.from s = take_all (length s - a.from) (drop a.from s) (le_of_eq (length-drop a.from s)) in
    omega (arith, nowhere a.b (drop a.from s) (ap (λ (l : List ℕ). position (λ (x : ℕ). eqb x a.b) l) (sym same) ∙ sym c.place_of.ensures ∙ c.in-None.is), length-drop a.from s)
