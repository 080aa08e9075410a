-- Writes one after the other, each by a writer that gives the index after its words. Assumes nothing.
use mathlib.Core.Path.{◌≡◌, ap, ap₂, ◌∙◌}
use mathlib.Core.List.{List, [], ◌∷◌, ◌++◌, append_assoc}
use Prim.Native.Nat.{ℕ, ◌+◌, ◌<◌, ◌≤◌}
use native.Mathlib.Omega.{arith}
use lib.ListN.{length, set, length-append}
use Rattle.lists.specs.Below.{concat_below}
use Rattle.lists.specs.Lists.{write_at}
use Rattle.lists.specs.Written.{Written}
use Rattle.lists.proofs.Below.{concat_mono}
use Rattle.lists.proofs.Writes.{write_more, length_write, sets_write, turn_start, turn_start_at, turn_next, turn_next_at}

pub then_write : (d : List ℕ) (at : ℕ) (s o : List ℕ) (r : ℕ) (t : List ℕ) → Written d at s o r → at ≤ length d → write_at o r t ≡ write_at d at (s ++ t)
then_write d at s o r t x h =
    ap₂ (λ (l : List ℕ) (k : ℕ). write_at l k t) x.words x.end ∙ write_more d at s t h

pub written_long : (d : List ℕ) (at : ℕ) (s o : List ℕ) (r : ℕ) → Written d at s o r → at + length s ≤ length d → length o ≡ length d
written_long d at s o r x h = ap length x.words ∙ length_write d at s h

-- a loop that writes f 0, f 1, .. from `from` on
module _ (d : List ℕ) (from : ℕ) (f : ℕ → List ℕ) where
  pub run_start : Written d from (concat_below 0 f) d from
  run_start = record { words = turn_start d from f; end = turn_start_at d from f }

  pub run_next : (i at : ℕ) (o p : List ℕ) (r : ℕ) → from ≤ length d → Written d from (concat_below i f) o at → Written o at (f i) p r → Written d from (concat_below (i + 1) f) p r
  run_next i at o p r h x y = record {
    words = y.words ∙ turn_next d from f i at o x.end h x.words;
    end = y.end ∙ turn_next_at d from f i at x.end;
  }

  -- the next words fit where all of them do
  pub run_room : (i n at : ℕ) (o : List ℕ) → Written d from (concat_below i f) o at → i < n → at + length (f i) ≤ from + length (concat_below n f)
  run_room i n at o x h = omega (arith, turn_next_at d from f i at x.end, concat_mono f (i + 1) n (omega arith))

-- one word more, after those that are written
pub write_one : (d o s : List ℕ) (from at x : ℕ) → from + length s < length d → length o ≡ length d → at ≡ from + length s → o ≡ write_at d from s → set o at x ≡ write_at d from (s ++ (x ∷ []))
write_one d o s from at x h l e q =
    let w : at + 1 ≤ length o = omega arith in
    sets_write o at (x ∷ []) w
    ∙ ap (λ (t : List ℕ). write_at t at (x ∷ [])) q
    ∙ ap (λ (k : ℕ). write_at (write_at d from s) k (x ∷ [])) e
    ∙ write_more d from s (x ∷ []) (omega arith)

-- four writes, one after the other
pub four_writes : (d h t b f : List ℕ) (i j k : ℕ) → i ≡ length h → j ≡ length h + length t → k ≡ j + length b
    → write_at (write_at (write_at (write_at d 0 h) i t) j b) k f ≡ write_at d 0 (h ++ (t ++ (b ++ f)))
four_writes d h t b f i j k p q r =
    let z = length-append h t in
    let y = length-append (h ++ t) b in
    let p' : i ≡ 0 + length h = omega arith in
    let q' : j ≡ 0 + length (h ++ t) = omega arith in
    let r' : k ≡ 0 + length ((h ++ t) ++ b) = omega arith in
    let one : write_at (write_at d 0 h) i t ≡ write_at d 0 (h ++ t) = ap (λ (k : ℕ). write_at (write_at d 0 h) k t) p' ∙ write_more d 0 h t (omega arith) in
    let two : write_at (write_at (write_at d 0 h) i t) j b ≡ write_at d 0 ((h ++ t) ++ b) = ap₂ (λ (l : List ℕ) (k : ℕ). write_at l k b) one q' ∙ write_more d 0 (h ++ t) b (omega arith) in
    ap₂ (λ (l : List ℕ) (k : ℕ). write_at l k f) two r'
    ∙ write_more d 0 ((h ++ t) ++ b) f (omega arith)
    ∙ ap (write_at d 0) (append_assoc (h ++ t) b f ∙ append_assoc h t (b ++ f))
