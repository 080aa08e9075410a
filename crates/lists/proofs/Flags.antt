-- A chain of strict tests, `a & b & c`, as a list of tests; and loops that gather tests in one flag. Assumes nothing.
use Prim.Native.Nat.{ℕ, suc, ◌+◌, ◌≤◌, ◌<◌}
use mathlib.Core.Bool.{Bool, true, ◌&&◌, and_assoc, and-true}
use mathlib.Core.List.{List, [], ◌∷◌}
use mathlib.Core.Path.{◌≡◌, sym, ap, ◌∙◌}
use native.Mathlib.Numerals.{add-one}
use lib.Dec.{leb}
use lib.ListN.{length, get_or, drop, drop_of_length-le}
use lib.Seq.{drop-cons}
use Rattle.lists.specs.Lists.{every, all, ascending}
use Rattle.lists.proofs.Lists.{all_left, all_end}

pub every_four : (a b c d : Bool) → (((a && b) && c) && d) ≡ every (a ∷ b ∷ c ∷ d ∷ [])
unfolding every
every_four a b c d = simp (and_assoc, and-true)

pub every_five : (a b c d e : Bool) → ((((a && b) && c) && d) && e) ≡ every (a ∷ b ∷ c ∷ d ∷ e ∷ [])
unfolding every
every_five a b c d e = simp (and_assoc, and-true)

pub every_one : (a : Bool) → a ≡ every (a ∷ [])
unfolding every
every_one a = sym (and-true a)

-- a turn of a loop that tests every element: f is the flag so far
pub flag_next : {A : Type 0} (p : A → Bool) (l : List A) (i : ℕ) (d : A) (f : Bool) → i < length l → (f && all p (drop i l)) ≡ all p l
    → ((f && p (get_or l i d)) && all p (drop (i + 1) l)) ≡ all p l
flag_next p l i d f h e = and_assoc f (p (get_or l i d)) (all p (drop (i + 1) l)) ∙ ap (λ (b : Bool). f && b) (sym (all_left p l i d h)) ∙ e

pub flag_end : {A : Type 0} (p : A → Bool) (l : List A) (i : ℕ) (d : A) (f : Bool) → length l ≤ i → (f && all p (drop i l)) ≡ all p l → f ≡ all p l
flag_end p l i d f h e = sym (and-true f) ∙ ap (λ (b : Bool). f && b) (sym (all_end p l i d h)) ∙ e

-- the same for a list that is to ascend
module _ (low : ℕ) (l : List ℕ) (i : ℕ) where
  pub ascending_end : length l ≤ i → ascending low (drop i l) ≡ true
  unfolding ascending
  ascending_end h = rw (drop_of_length-le l h)

  pub ascending_left : i < length l → ascending low (drop i l) ≡ (leb low (get_or l i 0) && ascending (suc (get_or l i 0)) (drop (i + 1) l))
  unfolding ascending
  ascending_left h = rw (add-one, drop-cons l i 0 h)

  pub rising_next : (t f : Bool) → i < length l → (f && ascending low (drop i l)) ≡ t
      → ((f && leb low (get_or l i 0)) && ascending (get_or l i 0 + 1) (drop (i + 1) l)) ≡ t
  rising_next t f h e =
      rw (add-one (get_or l i 0))
      (and_assoc f (leb low (get_or l i 0)) (ascending (suc (get_or l i 0)) (drop (i + 1) l)) ∙ ap (λ (b : Bool). f && b) (sym (ascending_left h)) ∙ e)

  pub rising_end : (t f : Bool) → length l ≤ i → (f && ascending low (drop i l)) ≡ t → f ≡ t
  rising_end t f h e = sym (and-true f) ∙ ap (λ (b : Bool). f && b) (sym (ascending_end h)) ∙ e
