-- The four directions by their turns, and what is still to come of a trace. Assumes nothing.
use Prim.Native.Nat.{ℕ, suc, ◌+◌, ◌-◌, ◌<◌, ◌≤◌}
use native.Mathlib.Numerals.{add-one}
use native.Mathlib.Omega.{arith}
use mathlib.Core.Path.{◌≡◌, sym, ap, ◌∙◌}
use mathlib.Core.Bool.{Bool, true, false}
use mathlib.Core.List.{List, [], ◌∷◌, map}
use lib.IntN.{ℤ}
use lib.ListN.{length, get_or, drop, set, drop_of_length-le, length-drop, length-map, get_or-map}
use lib.Seq.{drop-cons, paste}
use Rattle.lists.specs.Lists.{write_at}
use Rattle.lists.proofs.Writes.{paste_more, paste_all}
use Rattle.rules.specs.Grid.{ahead, inside}
use Rattle.rules.specs.Placement.{tracing, unblocked, trail}
use Rattle.rules.specs.declared.Heading.{Heading}
use Rattle.rules.specs.declared.Heading.TheVariants.{Up}
use Rattle.rules.specs.declared.Place.{Place}
use Rattle.rules.proofs.Placement.{none_left, open_first, shut_first, trail_done, trail_shut, trail_next}
use Rattle.rules.proofs.PlaceCheck.{four_turns}

-- ---- one direction after the other

module _ (g : ℤ) (e : Bool) (p : Place) where
  module _ (t : ℕ) (h : t < 4) where
    pub turn_first : drop t (tracing e) ≡ get_or (tracing e) t Up ∷ drop (t + 1) (tracing e)
    turn_first = rw (add-one, drop-cons (tracing e) t Up (rw (four_turns e) h))

    pub walk_open : inside g (ahead (get_or (tracing e) t Up) p) ≡ true → unblocked g (drop t (tracing e)) p ≡ drop t (tracing e)
    walk_open i = ap (λ (l : List Heading). unblocked g l p) turn_first ∙ open_first g (get_or (tracing e) t Up) (drop (t + 1) (tracing e)) p i ∙ sym turn_first

    pub walk_shut : inside g (ahead (get_or (tracing e) t Up) p) ≡ false → unblocked g (drop t (tracing e)) p ≡ unblocked g (drop (t + 1) (tracing e)) p
    walk_shut i = ap (λ (l : List Heading). unblocked g l p) turn_first ∙ shut_first g (get_or (tracing e) t Up) (drop (t + 1) (tracing e)) p i

  none_after : (t : ℕ) → 4 ≤ t → drop t (tracing e) ≡ []
  none_after t h = let q : length (tracing e) ≤ t = rw (four_turns e) h in drop_of_length-le (tracing e) q

  pub walk_end : (t : ℕ) → 4 ≤ t → unblocked g (drop t (tracing e)) p ≡ drop 4 (tracing e)
  walk_end t h = ap (λ (l : List Heading). unblocked g l p) (none_after t h) ∙ none_left g p ∙ sym (none_after 4 (omega arith))

-- ---- what is still to come

ended : {A : Type 0} (k : ℕ) (w : List A) → drop k w ≡ [] → length w ≤ k
ended k w e = omega (arith, length-drop k w, ap length e)

started : {A : Type 0} (k : ℕ) (w : List A) (x : A) (r : List A) → drop k w ≡ x ∷ r → k < length w
started k w x r e = omega (arith, length-drop k w, ap length e)

-- a trace of which k places are known, the last of them p, by the turn t: `whole` from its k-th place on is what is left of it
module _ (g : ℤ) (e : Bool) (whole : List Place) (size k t : ℕ) (p : Place) (r : k ≤ length whole) (i : trail (size - k) g (unblocked g (drop t (tracing e)) p) p ≡ drop k whole) where
  -- as many places as were asked for, or no direction is left
  pub full : size ≤ k → length whole ≡ k
  full f =
      let z : size - k ≡ 0 = omega arith in
      let n = ended k whole (sym i ∙ ap (λ (j : ℕ). trail j g (unblocked g (drop t (tracing e)) p) p) z ∙ trail_done g (unblocked g (drop t (tracing e)) p) p) in
      omega arith

  pub stuck : unblocked g (drop t (tracing e)) p ≡ drop 4 (tracing e) → length whole ≡ k
  stuck l =
      let n = ended k whole (sym i ∙ ap (λ (ds : List Heading). trail (size - k) g ds p) (l ∙ none_after g e p 4 (omega arith)) ∙ trail_shut g (size - k) p) in
      omega arith

  -- the trace goes on to the place q, by the turn u
  module _ (h : k < size) (u : ℕ) (q : Place) (f : u < 4) (l : unblocked g (drop t (tracing e)) p ≡ drop u (tracing e)) (a : q ≡ ahead (get_or (tracing e) u Up) p) where
    parted : drop k whole ≡ q ∷ trail (size - (k + 1)) g (unblocked g (drop u (tracing e)) q) q
    parted =
        let d = get_or (tracing e) u Up in
        let j = size - (k + 1) in
        let n : size - k ≡ suc (size - (k + 1)) = omega arith in
        let first = turn_first g e p u f in
        sym i
        ∙ ap (λ (j : ℕ). trail j g (unblocked g (drop t (tracing e)) p) p) n
        ∙ ap (λ (ds : List Heading). trail (suc j) g ds p) (l ∙ first)
        ∙ trail_next g j d (drop (u + 1) (tracing e)) p
        ∙ ap (λ (ds : List Heading). ahead d p ∷ trail j g (unblocked g ds (ahead d p)) (ahead d p)) (sym first)
        ∙ ap (λ (x : Place). x ∷ trail j g (unblocked g (drop u (tracing e)) x) x) (sym a)

    pub place_in : k < length whole
    place_in = started k whole q (trail (size - (k + 1)) g (unblocked g (drop u (tracing e)) q) q) parted

    both_parts : get_or whole k q ∷ drop (k + 1) whole ≡ q ∷ trail (size - (k + 1)) g (unblocked g (drop u (tracing e)) q) q
    both_parts = ap (λ (n : ℕ). get_or whole k q ∷ drop n whole) (add-one k) ∙ sym (drop-cons whole k q place_in) ∙ parted

    pub place_is : get_or whole k q ≡ q
    place_is = let q = both_parts in cc

    pub goes_on : trail (size - (k + 1)) g (unblocked g (drop u (tracing e)) q) q ≡ drop (k + 1) whole
    goes_on = let q = both_parts in cc

-- ---- the cells, written one after the other

module _ {A : Type 0} (f : A → ℕ) (old : List ℕ) (at : ℕ) (whole : List A) (k : ℕ) (p : A) (h : k < length whole) (e : get_or whole k p ≡ p) (r : at + k < length old) where
  pub cell_written : (now : List ℕ) → now ≡ paste old at (map f whole) k → set now (at + k) (f p) ≡ paste old at (map f whole) (k + 1)
  cell_written now q =
      let v : get_or (map f whole) k (f p) ≡ f p = get_or-map f whole k p ∙ ap f e in
      ap (λ (l : List ℕ). set l (at + k) (f p)) q
      ∙ ap (λ (x : ℕ). set (paste old at (map f whole) k) (at + k) x) (sym v)
      ∙ paste_more old at (map f whole) k (f p) r (rw (length-map whole f) h)

pub all_written : {A : Type 0} (f : A → ℕ) (old : List ℕ) (at : ℕ) (whole : List A) (k : ℕ) → length whole ≡ k → paste old at (map f whole) k ≡ write_at old at (map f whole)
all_written f old at whole k e = ap (λ (j : ℕ). paste old at (map f whole) j) (sym e ∙ sym (length-map whole f)) ∙ paste_all old at (map f whole)
