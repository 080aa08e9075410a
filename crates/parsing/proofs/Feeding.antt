-- A line that comes in parts is read as the whole line; an input is its lines. Assumes nothing.
use Prim.Native.Nat.{ℕ, ◌+◌, ◌-◌, ◌<◌, ◌≤◌}
use native.Mathlib.Omega.{arith}
use mathlib.Core.Path.{◌≡◌, refl, sym, ap, ◌∙◌}
use mathlib.Core.Bool.{Bool, true, false, cond}
use mathlib.Core.List.{List, [], ◌∷◌, ◌++◌}
use lib.Dec.{eqb}
use lib.ListN.{length, take, drop, length-append}
use lib.Seq.{take_at, length-take-le}
use borrow.Author.Tests.{lt-ltb}
use Rattle.lists.specs.Lists.{write_at}
use Rattle.lists.proofs.Tests.{ordered, less, more}
use Rattle.parsing.specs.Fields.{up_to, past_each, pieces}
use Rattle.parsing.specs.Lines.{read_first, read_later}
use Rattle.parsing.specs.Split.{Holds, less_last, lines_from, lines_of}

-- ---- one more part

written_front : (d : List ℕ) (k : ℕ) (s : List ℕ) → k ≤ length d → take (k + length s) (write_at d k s) ≡ take k d ++ s
unfolding write_at
written_front d k s h =
    take_at (take k d ++ s) (drop (k + length s) d) (k + length s) (length-append (take k d) s ∙ ap (λ (j : ℕ). j + length s) (length-take-le k d h))

module _ (buffer s part : List ℕ) (fill : ℕ) (h : Holds buffer fill s) where
  pub fed_over : 200 < fill → Holds buffer 201 (s ++ part)
  fed_over l =
      let n = length-append s part in
      record { counted = omega (arith, h.counted); front = λ q. absurd (omega (arith, h.counted)) }

  pub fed_past : fill ≤ 200 → 200 - fill < length part → Holds buffer 201 (s ++ part)
  fed_past l m =
      let n = length-append s part in
      record { counted = omega (arith, h.counted); front = λ q. absurd (omega (arith, h.counted)) }

  pub fed_on : fill ≤ 200 → length part ≤ 200 - fill → 201 ≤ length buffer → Holds (write_at buffer fill part) (fill + length part) (s ++ part)
  fed_on l m b =
      let n = length-append s part in
      let e : length s ≡ fill = omega (arith, h.counted) in
      record {
        counted = omega arith;
        front = λ q.
            ap (λ (j : ℕ). take j (write_at buffer fill part)) (n ∙ ap (λ (j : ℕ). j + length part) e)
            ∙ written_front buffer fill part (omega arith)
            ∙ ap (λ (x : List ℕ). x ++ part) (ap (λ (j : ℕ). take j buffer) (sym e) ∙ h.front (omega arith));
      }

-- ---- the bytes that are held are read as the line

module _ (buffer s : List ℕ) (fill : ℕ) (b : 201 ≤ length buffer) (h : Holds buffer fill s) where
  held_short : length s ≤ 200 → take fill buffer ≡ s
  held_short l = let e : fill ≡ length s = omega (arith, h.counted) in ap (λ (k : ℕ). take k buffer) e ∙ h.front l

  held_long : 200 < length s → 200 < length (take fill buffer)
  held_long l = omega (arith, h.counted, length-take-le fill buffer (omega (arith, h.counted)))

  pub held_first : read_first (take fill buffer) ≡ read_first s
  unfolding read_first
  held_first = elim (ordered 200 (length s)) [
    | less l t ↦ rw (t, lt-ltb 200 (length (take fill buffer)) (held_long l))
    | more l t ↦ ap read_first (held_short l)
  ]

  pub held_later : (n : ℕ) → read_later n (take fill buffer) ≡ read_later n s
  unfolding read_later
  held_later n = elim (ordered 200 (length s)) [
    | less l t ↦ rw (t, lt-ltb 200 (length (take fill buffer)) (held_long l))
    | more l t ↦ ap (read_later n) (held_short l)
  ]

-- ---- an input is cut where its newlines stand

-- s has no newline: it ends where it is cut
pub ends_by_lem : (t : Bool) (x : ℕ) (s : List ℕ) → cond t [] (x ∷ up_to 10 s) ≡ x ∷ s → (t ≡ false) × (up_to 10 s ≡ s)
ends_by_lem true x s e = let z : ◌≡◌ {A = ℕ} 0 1 = cc in absurd (omega arith)
ends_by_lem false x s e = let p : up_to 10 s ≡ s = cc in (refl, p)

pub cut_first : (s t : List ℕ) → up_to 10 s ≡ s → pieces 10 (s ++ (10 ∷ t)) ≡ s ∷ pieces 10 t
unfolding up_to past_each
cut_first [] t e = refl
cut_first (x ∷ s) t e =
    let q = ends_by_lem (eqb x 10) x s e in
    let r = cut_first s t q.1 in
    let a : up_to 10 (s ++ (10 ∷ t)) ≡ s = ap (λ (l : List (List ℕ)). lib.ListN.get_or l 0 []) r in
    let b : past_each 10 (s ++ (10 ∷ t)) ≡ pieces 10 t = ap (drop 1) r in
    rw (q.0, a, b)

pub cut_last : (s : List ℕ) → up_to 10 s ≡ s → pieces 10 s ≡ s ∷ []
unfolding up_to past_each
cut_last [] e = refl
cut_last (x ∷ s) e =
    let q = ends_by_lem (eqb x 10) x s e in
    let r = cut_last s q.1 in
    let b : past_each 10 s ≡ [] = ap (drop 1) r in
    rw (q.0, q.1, b)

-- a line ends at its newline; what is left at the end is a line unless it is empty
pub line_first : (s t : List ℕ) → up_to 10 s ≡ s → lines_of (s ++ (10 ∷ t)) ≡ s ∷ lines_of t
unfolding lines_of less_last
line_first [] t e = ap lines_from (cut_first [] t e)
line_first (x ∷ s) t e = ap lines_from (cut_first (x ∷ s) t e)

pub line_last : (x : ℕ) (s : List ℕ) → up_to 10 (x ∷ s) ≡ x ∷ s → lines_of (x ∷ s) ≡ (x ∷ s) ∷ []
unfolding lines_of less_last
line_last x s e = ap lines_from (cut_last (x ∷ s) e)

pub line_none : lines_of [] ≡ []
unfolding lines_of less_last up_to past_each
line_none = refl
