-- What the words of an image show: a snake's part of a line, the events marked; the last line. Assumes nothing.
use Rattle.std.proofs.lemmas.List.{get_or_default}
use Prim.Native.Nat.{ℕ, ◌+◌, ◌*◌, ◌≤◌, ◌<◌}
use mathlib.Core.Path.{◌≡◌, ap, ◌∙◌}
use mathlib.Core.List.{List, [], ◌∷◌}
use native.Mathlib.Omega.{arith}
use lib.Dec.{eqb}
use lib.ListN.{get_or, set, length, take, replicate}
use Rattle.std.proofs.lemmas.List.{length-take, get_or-take}
use Rattle.lists.specs.Below.{filled}
use Rattle.lists.proofs.Below.{filled_none, filled_more}
use Rattle.rules.specs.Events.{blank}
use Rattle.rules.specs.Image.{word, start_at}
use Rattle.rules.specs.Turns.{truncated}
use Rattle.rules.specs.declared.Event.{Event}
use Rattle.printing.specs.Text.{Wrote, body_text, events_text, placings_text}
use Rattle.printing.proofs.Writing.{both}
use Rattle.standing.specs.Shown.{snake_shown, mark_shown}
use Rattle.standing.specs.Standing.{snakes_of, places_of, end_text}
use Rattle.standing.specs.declared.Match.{Match}

-- ---- a snake's part of the line

-- the body, a colon and the events, one after the other
pub snake_shown_lem : (w : List ℕ) (i : ℕ) (e : Event) (size k alive l cell : ℕ)
    → k ≡ 6 + 4 * i → size ≡ get_or w k 0 → l ≡ 8 + 4 * i → alive ≡ get_or w l 0 → cell ≡ word w (start_at w i)
    → (d d₁ d₂ d₃ : List ℕ) (at j₁ j₂ r : ℕ) → at + 52 ≤ length d
    → Wrote d d₁ at j₁ (body_text (eqb alive 1) size cell) 44 → Wrote d₁ d₂ j₁ j₂ (58 ∷ []) 1 → Wrote d₂ d₃ j₂ r (events_text e) 7
    → Wrote d d₃ at r (snake_shown w i e) 52
unfolding snake_shown
snake_shown_lem w i e size k alive l cell pk ps pl pa pc d d₁ d₂ d₃ at j₁ j₂ r room x y z =
    let b = rw (ps, pk, pa, pl, pc) at x in
    both (both b y (omega arith)) z (omega arith)

-- ---- the events, the first i marked

pub record Marked (w : List ℕ) (es : List Event) (n i : ℕ) (out : List Event) : Type 0 where
  pub within : i ≤ n
  pub table : out ≡ filled (mark_shown w es) i 8 blank

module _ (w : List ℕ) (es : List Event) (n : ℕ) where
  pub marked_none : (out : List Event) → out ≡ replicate 8 blank → Marked w es n 0 out
  marked_none out p = record { within = omega arith; table = p ∙ filled_none (mark_shown w es) 8 blank }

  module _ (i : ℕ) (out : List Event) (m : Marked w es n i out) where
    pub marked_next : i < length (take n es) → n ≤ 8 → (l alive : ℕ) (e d : Event) → l ≡ 8 + 4 * i → alive ≡ get_or w l 0 → e ≡ truncated (get_or (take n es) i d) (eqb alive 1)
        → Marked w es n (i + 1) (set out i e)
    marked_next h k l alive e d pl pa pe =
        let lt : i < n = omega (arith, length-take n es) in
        let q : e ≡ mark_shown w es i = pe ∙ rw (get_or_default (take n es) i d blank h, get_or-take, pa, pl) in
        record {
          within = omega arith;
          table = ap (λ (x : List Event). set x i e) m.table ∙ rw q (filled_more (mark_shown w es) i 8 blank (omega arith));
        }

-- ---- the last line

pub end_written : (m : Match) (n : ℕ) → n ≡ snakes_of m → (all : List ℕ) → all ≡ places_of m
    → (d d₁ : List ℕ) (r : ℕ) → Wrote d d₁ 0 r (placings_text all n) 170 → Wrote d d₁ 0 r (end_text m) 170
unfolding end_text
end_written m n p all q d d₁ r x = rw (← q, ← p) x
