-- What the loops over the pieces of a line need: where a piece ends, how many there are, where the next one starts. Assumes nothing.
use Prim.Native.Nat.{ℕ, suc, ◌+◌, ◌<◌, ◌≤◌}
use native.Mathlib.Nat.{add-zero}
use native.Mathlib.Omega.{arith}
use mathlib.Core.Path.{◌≡◌, refl, sym, ap, ◌∙◌}
use mathlib.Core.Bool.{Bool, true, false, cond}
use mathlib.Core.List.{List, [], ◌∷◌}
use lib.Dec.{leb, eqb, leb-suc-suc}
use lib.ListN.{length, get_or, take, drop, length-drop}
use lib.Seq.{drop-drop, get_or-drop}
use borrow.Author.Tests.{le-leb, lt-leb, leb-true, leb-false}
use Rattle.std.specs.List.{count_by, position_or_len}
use Rattle.std.proofs.lemmas.List.Recursion.{is_count_by, is_position_or_len}
use Rattle.lists.specs.Choice.{◌if◌else◌}
use Rattle.parsing.specs.Fields.{up_to, past_each, pieces, pieces_from, field_at}

module _ (b : ℕ) where
  -- the first piece is the front of the bytes
  front_by : (t : Bool) (x : ℕ) (s : List ℕ) → take (length (up_to b s)) s ≡ up_to b s → take (length (cond t [] (x ∷ up_to b s))) (x ∷ s) ≡ cond t [] (x ∷ up_to b s)
  front_by true x s h = refl
  front_by false x s h = ap (λ (l : List ℕ). x ∷ l) h

  pub piece_front : (s : List ℕ) → take (length (up_to b s)) s ≡ up_to b s
  unfolding up_to
  piece_front [] = refl
  piece_front (x ∷ s) = front_by (eqb x b) x s (piece_front s)

  short_by : (t : Bool) (x : ℕ) (s : List ℕ) → length (up_to b s) ≤ length s → length (cond t [] (x ∷ up_to b s)) ≤ suc (length s)
  short_by true x s h = omega arith
  short_by false x s h = omega arith

  pub piece_short : (s : List ℕ) → length (up_to b s) ≤ length s
  unfolding up_to
  piece_short [] = omega arith
  piece_short (x ∷ s) = short_by (eqb x b) x s (piece_short s)

  -- what stands behind the first piece l and its b
  abbrev behind : List ℕ → List ℕ → List (List ℕ)
  behind l s = pieces b (drop (suc (length l)) s) if leb (suc (length l)) (length s) else []

  past_by : (t : Bool) (x : ℕ) (s : List ℕ) → past_each b s ≡ behind (up_to b s) s → cond t (pieces b s) (past_each b s) ≡ behind (cond t [] (x ∷ up_to b s)) (x ∷ s)
  past_by true x s h = rw (le-leb 1 (suc (length s)) (omega arith))
  past_by false x s h = rw leb-suc-suc h

  past_is : (s : List ℕ) → past_each b s ≡ behind (up_to b s) s
  unfolding up_to past_each
  past_is [] = refl
  past_is (x ∷ s) = past_by (eqb x b) x s (past_is s)

  -- the first piece ends at the place of the first b, or with the bytes
  place_by : (t : Bool) (x : ℕ) (l : List ℕ) → length (cond t [] (x ∷ l)) ≡ cond t 0 (1 + length l)
  place_by true x l = refl
  place_by false x l = omega arith

  pub piece_place : (s : List ℕ) → length (up_to b s) ≡ position_or_len (λ x. eqb x b) s
  unfolding up_to
  piece_place s = is_position_or_len (λ l. length (up_to b l)) (λ x. eqb x b) refl (λ x l. place_by (eqb x b) x (up_to b l)) s

  -- a further piece for each b
  count_by_lem : (t : Bool) (u : List ℕ) (r : List (List ℕ)) → length (cond t (u ∷ r) r) ≡ cond t (1 + length r) (length r)
  count_by_lem true u r = omega arith
  count_by_lem false u r = refl

  pub pieces_counted : (s : List ℕ) → length (past_each b s) ≡ count_by (λ x. eqb x b) s
  unfolding past_each
  pieces_counted s = is_count_by (λ l. length (past_each b l)) (λ x. eqb x b) refl (λ x l. count_by_lem (eqb x b) (up_to b l) (past_each b l)) s

same_by : (a b c d : ℕ) → (a ≤ b → c ≤ d) → (b < a → d < c) → (t : Bool) → leb a b ≡ t → leb a b ≡ leb c d
same_by a b c d f g true e = e ∙ sym (le-leb c d (f (leb-true a b e)))
same_by a b c d f g false e = e ∙ sym (lt-leb c d (g (leb-false a b e)))

-- the pieces from a start on: the first, and those from the next start on
module _ (b : ℕ) (s : List ℕ) (at : ℕ) where
  pub from_first : at ≤ length s → field_at (pieces_from b s at) 0 ≡ up_to b (drop at s)
  from_first h = rw (le-leb _ _ h)

  pub from_none : length s < at → field_at (pieces_from b s at) 0 ≡ []
  from_none h = rw (lt-leb _ _ h)

  pub next_none : length s < at → pieces_from b s at ≡ drop 1 (pieces_from b s at)
  next_none h = rw (lt-leb _ _ h)

  pub next_some : at ≤ length s → pieces_from b s (at + length (up_to b (drop at s)) + 1) ≡ drop 1 (pieces_from b s at)
  next_some h =
      let n = length (up_to b (drop at s)) in
      let e : at + suc n ≡ at + n + 1 = omega arith in
      let d = length-drop at s in
      let t : leb (suc n) (length (drop at s)) ≡ leb (at + n + 1) (length s) = same_by (suc n) (length (drop at s)) (at + n + 1) (length s) (λ p. omega arith) (λ p. omega arith) _ refl in
      let p : behind b (up_to b (drop at s)) (drop at s) ≡ pieces_from b s (at + n + 1) = rw (t, drop-drop, e) in
      rw (le-leb _ _ h) (sym p ∙ sym (past_is b (drop at s)))

  -- a start at which the pieces from the k-th on stand
  pub from_at : (k : ℕ) → pieces_from b s at ≡ drop k (pieces b s) → field_at (pieces_from b s at) 0 ≡ field_at (pieces b s) k
  from_at k e = ap (λ (l : List (List ℕ)). get_or l 0 []) e ∙ get_or-drop k (pieces b s) 0 [] ∙ ap (λ (n : ℕ). get_or (pieces b s) n []) (add-zero k)
