-- A body is its head, where it lives, and a part of the image. Assumes nothing.
use mathlib.Core.Path.{◌≡◌, refl, sym, ap, ◌∙◌}
use mathlib.Core.Bool.{Bool, true, false}
use mathlib.Core.List.{List, [], ◌∷◌, ◌++◌}
use Prim.Native.Nat.{ℕ, ◌+◌, ◌≤◌}
use native.Mathlib.Omega.{arith}
use lib.ListN.{length, drop, set, length-drop}
use lib.Seq.{length-take-le}
use Rattle.lists.specs.Choice.{◌if◌else◌, bit}
use Rattle.lists.specs.Lists.{write_at}
use Rattle.lists.specs.Written.{Written}
use Rattle.lists.proofs.Writes.{write_none, sets_write}
use Rattle.cells.specs.Writers.{new_head, part_of, body_with}

head_on : (l : Bool) (c : ℕ) (p : List ℕ) → (c ∷ p if l else p) ≡ (c ∷ [] if l else []) ++ p
head_on true c p = refl
head_on false c p = refl

head_size : (l : Bool) (c k : ℕ) (p : List ℕ) → length p ≡ k → length (c ∷ p if l else p) ≡ k + bit l
head_size true c k p e = omega arith
head_size false c k p e = omega arith

module _ (w : List ℕ) (start len : ℕ) where
  pub part_size : start + len ≤ length w → length (part_of w start len) ≡ len
  part_size h = length-take-le len (drop start w) (omega (arith, length-drop start w))

  module _ (head : ℕ) (lives : Bool) where
    pub body_is : body_with w start len head lives ≡ new_head head lives ++ part_of w start len
    body_is = head_on lives head (part_of w start len)

    pub body_size : start + len ≤ length w → length (body_with w start len head lives) ≡ len + bit lives
    body_size h = head_size lives head len (part_of w start len) (part_size h)

module _ (d : List ℕ) (at head : ℕ) (lives : Bool) where
  pub head_written : at + length (new_head head lives) ≤ length d → lives ≡ true → Written d at (new_head head lives) (set d at head) (at + 1)
  head_written h e =
      let p : new_head head lives ≡ head ∷ [] = ap (new_head head) e in
      record {
        words = sets_write d at (head ∷ []) (omega (arith, ap length p)) ∙ ap (write_at d at) (sym p);
        end = omega (arith, ap length p);
      }

  pub head_left : lives ≡ false → Written d at (new_head head lives) d at
  head_left e =
      let p : new_head head lives ≡ [] = ap (new_head head) e in
      record {
        words = sym (ap (write_at d at) p ∙ write_none d at);
        end = omega (arith, ap length p);
      }
