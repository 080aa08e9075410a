-- Where all places are inside, the first bad cell is the first cell that stands twice. Assumes nothing.
use Prim.Native.Nat.{ℕ}
use mathlib.Core.Path.{◌≡◌, refl, ap, ap₂, ◌∙◌}
use mathlib.Core.Bool.{Bool, true, false, not, cond, ◌&&◌, ◌||◌, and-true}
use mathlib.Core.List.{List, [], ◌∷◌, map}
use lib.Dec.{eqb}
use lib.IntN.{pos}
use Rattle.lists.specs.Choice.{◌if◌else◌}
use Rattle.lists.specs.Lists.{all, any, member, distinct}
use Rattle.lists.proofs.Tests.{and_left, and_right, both, eqb_sym, gather}
use Rattle.rules.specs.Grid.{inside, same, cell_of}
use Rattle.rules.specs.Setting.{bad_cell}
use Rattle.rules.specs.declared.Place.{Place}
use Rattle.rules.proofs.Grid.{same_cell}

-- no number of l stands before it, in b or in l
unfoldable new_to : List ℕ → List ℕ → Bool
new_to b [] = true
new_to b (x ∷ xs) = not (member x b) && new_to (x ∷ b) xs

unfoldable none_in : List ℕ → List ℕ → Bool
none_in b [] = true
none_in b (x ∷ xs) = not (member x b) && none_in b xs

swap : (e m u v : Bool) → (not (e || m) && (not u && v)) ≡ (not (e || u) && (not m && v))
swap true m u v = refl
swap false true true v = refl
swap false true false v = refl
swap false false true v = refl
swap false false false v = refl

one_more : (x : ℕ) (b l : List ℕ) → none_in (x ∷ b) l ≡ (not (member x l) && none_in b l)
unfolding none_in member
one_more x b [] = refl
one_more x b (y ∷ ys) = rw (one_more x b ys, eqb_sym y x) (swap (eqb x y) (member y b) (member x ys) (none_in b ys))

new_apart : (b l : List ℕ) → new_to b l ≡ (distinct l && none_in b l)
unfolding new_to distinct none_in
new_apart b [] = refl
new_apart b (x ∷ xs) = rw (new_apart (x ∷ b) xs, one_more x b xs) (gather (not (member x b)) (not (member x xs)) (distinct xs) (none_in b xs))

none_before : (l : List ℕ) → none_in [] l ≡ true
unfolding none_in member
none_before [] = refl
none_before (x ∷ xs) = none_before xs

new_distinct : (l : List ℕ) → new_to [] l ≡ distinct l
new_distinct l = new_apart [] l ∙ rw (none_before l) (and-true (distinct l))

module _ (g : ℕ) where
  taken_before : (p : Place) (before : List Place) → inside (pos g) p ≡ true → all (inside (pos g)) before ≡ true → any (same p) before ≡ member (cell_of g p) (map (cell_of g) before)
  unfolding any all member
  taken_before p [] i h = refl
  taken_before p (q ∷ qs) i h =
      ap₂ ◌||◌ (same_cell g p q i (and_left (inside (pos g) q) (all (inside (pos g)) qs) h))
      (taken_before p qs i (and_right (inside (pos g) q) (all (inside (pos g)) qs) h))

  chosen : (i m n : Bool) (r : ℕ) → i ≡ true → r ≡ (0 if n else 11) → cond i (cond m 11 r) 10 ≡ (0 if not m && n else 11)
  chosen true true n r i e = refl
  chosen true false n r i e = e
  chosen false m n r i e = absurd (mathlib.Core.Bool.false≢true i)

  first_bad : (before ps : List Place) → all (inside (pos g)) before ≡ true → all (inside (pos g)) ps ≡ true
      → bad_cell (pos g) before ps ≡ (0 if new_to (map (cell_of g) before) (map (cell_of g) ps) else 11)
  unfolding bad_cell new_to all
  first_bad before [] h k = refl
  first_bad before (p ∷ ps) h k =
      let i = and_left (inside (pos g) p) (all (inside (pos g)) ps) k in
      rw (taken_before p before i h)
      (chosen (inside (pos g) p) (member (cell_of g p) (map (cell_of g) before)) (new_to (cell_of g p ∷ map (cell_of g) before) (map (cell_of g) ps)) (bad_cell (pos g) (p ∷ before) ps) i
      (first_bad (p ∷ before) ps (both i h) (and_right (inside (pos g) p) (all (inside (pos g)) ps) k)))

  -- 0 where no cell stands twice, else 11
  pub bad_repeats : (ps : List Place) → all (inside (pos g)) ps ≡ true → bad_cell (pos g) [] ps ≡ (0 if distinct (map (cell_of g) ps) else 11)
  unfolding all
  bad_repeats ps h = first_bad [] ps refl h ∙ ap (λ (b : Bool). 0 if b else 11) (new_distinct (map (cell_of g) ps))
