-- What a list does not hold, no part of it holds. Assumes nothing.
use Prim.Native.Nat.{ℕ, ◌+◌, ◌-◌, ◌≤◌}
use native.Mathlib.Omega.{arith}
use mathlib.Core.Path.{◌≡◌, sym, ap, ◌∙◌}
use mathlib.Core.Bool.{false}
use mathlib.Core.List.{List}
use lib.ListN.{take, drop, take-append-drop}
use lib.Seq.{drop-drop}
use Rattle.lists.specs.Lists.{member}
use Rattle.lists.proofs.Tests.{or_false_left, or_false_right}
use Rattle.lists.proofs.Lists.{member_append}

module _ (x : ℕ) (l : List ℕ) (k : ℕ) (e : member x l ≡ false) where
  pub missing_taken : member x (take k l) ≡ false
  missing_taken = or_false_left (member x (take k l)) (member x (drop k l)) (sym (member_append x (take k l) (drop k l)) ∙ ap (member x) (take-append-drop k l) ∙ e)

  pub missing_dropped : member x (drop k l) ≡ false
  missing_dropped = or_false_right (member x (take k l)) (member x (drop k l)) (sym (member_append x (take k l) (drop k l)) ∙ ap (member x) (take-append-drop k l) ∙ e)

-- a part that starts at `from` or later
pub missing_part : (x : ℕ) (l : List ℕ) (from a n : ℕ) → from ≤ a → member x (drop from l) ≡ false → member x (take n (drop a l)) ≡ false
missing_part x l from a n h e =
    let q : from + (a - from) ≡ a = omega arith in
    missing_taken x (drop a l) n (rw (drop-drop (a - from) from l, q) at (missing_dropped x (drop from l) (a - from) e))
