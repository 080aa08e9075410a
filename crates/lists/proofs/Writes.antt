-- Laws of writing a list into another: one loop that copies, and writes one after the other. Assumes nothing.
use Prim.Native.Nat.{ℕ, ◌+◌, ◌<◌, ◌≤◌}
use native.Mathlib.Omega.{arith}
use native.Mathlib.Numerals.{add-one}
use mathlib.Core.Path.{◌≡◌, sym, ap, ◌∙◌}
use mathlib.Core.List.{List, [], ◌++◌, append-nil, append_assoc}
use lib.ListN.{length, take, drop, get_or, set, length-append, length-drop, take-append-drop}
use lib.Seq.{paste, paste-suc, take-length, length-take-le, take_at, drop-append-add, drop-drop, sets, sets-eq}
use Rattle.lists.specs.Below.{concat_below}
use Rattle.lists.specs.Lists.{write_at, over_front}
use Rattle.lists.proofs.Below.{concat_none, concat_next}

module _ {A : Type 0} where
  -- the loop that copies, done; and a turn of it
  pub paste_all : (d : List A) (at : ℕ) (s : List A) → paste d at s (length s) ≡ write_at d at s
  unfolding write_at
  paste_all d at s = rw take-length

  pub paste_more : (d : List A) (at : ℕ) (s : List A) (j : ℕ) (z : A) → at + j < length d → j < length s
      → set (paste d at s j) (at + j) (get_or s j z) ≡ paste d at s (j + 1)
  paste_more d at s j z p q = rw (add-one j) (paste-suc d at s j z p q)

  -- a write at the front
  pub write_front : (d s : List A) → write_at d 0 s ≡ over_front s d
  unfolding write_at over_front
  write_front d s = let e : 0 + length s ≡ length s = omega arith in rw e

module _ {A : Type 0} (d : List A) (k : ℕ) where
  pub write_none : write_at d k [] ≡ d
  unfolding write_at
  write_none =
      let e : k + 0 ≡ k = omega arith in
      ap (λ (l : List A). l ++ drop (k + 0) d) (append-nil (take k d)) ∙ ap (λ (j : ℕ). take k d ++ drop j d) e ∙ take-append-drop k d

  -- two writes, one after the other, are one
  pub write_more : (a b : List A) → k ≤ length d → write_at (write_at d k a) (k + length a) b ≡ write_at d k (a ++ b)
  unfolding write_at
  write_more a b h =
      let p = take k d ++ a in
      let r = drop (k + length a) d in
      let q : length p ≡ k + length a = length-append (take k d) a ∙ ap (λ (j : ℕ). j + length a) (length-take-le k d h) in
      let e : k + length a + length b ≡ k + length (a ++ b) = omega (arith, length-append a b) in
      ap (λ (l : List A). l ++ b ++ drop (k + length a + length b) (p ++ r)) (take_at p r (k + length a) q)
      ∙ ap (λ (j : ℕ). p ++ b ++ drop (j + length b) (p ++ r)) (sym q)
      ∙ ap (λ (l : List A). p ++ b ++ l) (drop-append-add p r (length b) ∙ drop-drop (length b) (k + length a) d)
      ∙ ap (λ (j : ℕ). p ++ b ++ drop j d) e
      ∙ ap (λ (l : List A). l ++ drop (k + length (a ++ b)) d) (append_assoc (take k d) a b)

  pub length_write : (a : List A) → k + length a ≤ length d → length (write_at d k a) ≡ length d
  unfolding write_at
  length_write a h =
      let t : k ≤ length d = omega arith in
      omega (arith, length-append (take k d ++ a) (drop (k + length a) d), length-append (take k d) a, length-take-le k d t, length-drop (k + length a) d)

  -- stores, one after the other, are one write
  pub sets_write : (vs : List A) → k + length vs ≤ length d → sets d k vs ≡ write_at d k vs
  unfolding write_at
  sets_write vs h = sets-eq vs d k h

-- a loop that writes f 0, f 1, .. from k on, and has come to `at`
module _ {A : Type 0} (d : List A) (k : ℕ) (f : ℕ → List A) where
  pub turn_start : d ≡ write_at d k (concat_below 0 f)
  turn_start = rw concat_none (sym (write_none d k))

  pub turn_start_at : k ≡ k + length (concat_below 0 f)
  turn_start_at = rw concat_none (omega arith)

  pub turn_next : (i at : ℕ) (o : List A) → at ≡ k + length (concat_below i f) → k ≤ length d → o ≡ write_at d k (concat_below i f)
      → write_at o at (f i) ≡ write_at d k (concat_below (i + 1) f)
  turn_next i at o e h q =
      ap (λ (l : List A). write_at l at (f i)) q
      ∙ ap (λ (j : ℕ). write_at (write_at d k (concat_below i f)) j (f i)) e
      ∙ write_more d k (concat_below i f) (f i) h
      ∙ ap (λ (l : List A). write_at d k l) (sym (concat_next f i))

  pub turn_next_at : (i at : ℕ) → at ≡ k + length (concat_below i f) → at + length (f i) ≡ k + length (concat_below (i + 1) f)
  turn_next_at i at e = omega (arith, e, ap (λ (l : List A). length l) (concat_next f i), length-append (concat_below i f) (f i))
