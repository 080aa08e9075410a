-- What the loops of the search need. Assumes nothing.
use Prim.Native.Nat.{ℕ, ◌+◌, ◌<◌}
use mathlib.Core.Path.{◌≡◌, refl, sym, ap, ◌∙◌}
use mathlib.Core.Bool.{Bool, true, false, ◌||◌, or_assoc, false≢true}
use mathlib.Core.List.{List, [], ◌∷◌}
use native.Mathlib.Omega.{arith}
use lib.Dec.{eqb}
use lib.ListN.{length, get_or, drop}
use borrow.Author.Tests.{lt-ltb}
use Rattle.std.specs.Prelude.{Some, None, is_some}
use Rattle.std.specs.List.{position, position_or_len}
use Rattle.std.proofs.Math.Numerals.{one-add}
use Rattle.std.proofs.lemmas.List.Recursion.{is_position_or_len}
use Rattle.lists.specs.Choice.{◌if◌else◌}
use Rattle.lists.specs.Lists.{member, place}
use Rattle.lists.specs.Search.{found_in}
use Rattle.lists.proofs.Tests.{eqb_sym, compared, same, other}
use Rattle.lists.proofs.Lists.{member_left}

module _ (x : ℕ) (l : List ℕ) where
  -- a turn of the loop that tells whether x stands in the list: f is what was found so far
  pub search_next : (i : ℕ) (f : Bool) → i < length l → (f || member x (drop i l)) ≡ member x l → ((f || eqb (get_or l i 0) x) || member x (drop (i + 1) l)) ≡ member x l
  search_next i f h e = or_assoc f (eqb (get_or l i 0) x) (member x (drop (i + 1) l)) ∙ rw (eqb_sym (get_or l i 0) x) (ap (λ (b : Bool). f || b) (sym (member_left x l i h)) ∙ e)

  pub found_none : member x l ≡ false → found_in l x ≡ None
  unfolding found_in
  found_none e = rw e

  pub found_at : member x l ≡ true → found_in l x ≡ Some (place x l)
  unfolding found_in
  found_at e = rw e

-- the library's search for a number that stands in the list
place_position : (x : ℕ) (l : List ℕ) → place x l ≡ position_or_len (λ y. eqb y x) l
unfolding place
place_position x l = is_position_or_len (place x) (λ y. eqb y x) refl (λ y ys. rw (eqb_sym y x, one-add) refl) l

place_inside : (x : ℕ) (l : List ℕ) → member x l ≡ true → place x l < length l
unfolding place member
place_inside x [] e = absurd (false≢true e)
place_inside x (y ∷ ys) e = elim (compared x y) [
  | same q t ↦ rw t (omega arith)
  | other n t ↦ rw t (let h = place_inside x ys (rw t at e) in omega arith)
]

pub found_position : (x : ℕ) (l : List ℕ) → member x l ≡ true → position (λ y. eqb y x) l ≡ Some (place x l)
found_position x l e = rw (← (place_position x l), lt-ltb (place x l) (length l) (place_inside x l e)) refl

-- a number is found exactly where it is a member: so what asked for membership asks for the place
pub found_member : (x : ℕ) (l : List ℕ) → is_some (found_in l x) ≡ member x l
unfolding found_in
found_member x l = go (member x l)
  where
    go : (b : Bool) → is_some (Some (place x l) if b else None) ≡ b
    go true = refl
    go false = refl

-- what is found stands there, at its first place
module _ (x : ℕ) (l : List ℕ) (k : ℕ) (e : Some k ≡ found_in l x) where
  pub found_holds : member x l ≡ true
  found_holds = sym (found_member x l) ∙ sym (ap is_some e)

  pub found_place : k ≡ place x l
  found_place = let h : Some k ≡ Some (place x l) = e ∙ found_at x l found_holds in cc
