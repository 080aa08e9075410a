-- One block of lists that stand one after the other: where it starts, and what follows. Assumes nothing.
use Prim.Native.Nat.{ℕ, zero, suc, ◌+◌, ◌-◌, ◌*◌, ◌<◌}
use native.Mathlib.Omega.{arith}
use native.Mathlib.Nat.{mul-suc}
use mathlib.Core.Path.{◌≡◌, sym, ap, ◌∙◌}
use mathlib.Core.List.{List, ◌++◌, append_assoc}
use lib.ListN.{length, take, drop, length-append}
use lib.Seq.{take-append_seam, drop-append_seam}
use Rattle.lists.specs.Below.{concat_below}
use Rattle.lists.proofs.Below.{concat_next, concat_split}

module _ {A : Type 0} (f : ℕ → List A) (i n : ℕ) (h : i < n) (r : List A) where
  -- what follows block i: the later blocks, and r
  abbrev pub behind : List A
  behind = concat_below (n - (i + 1)) (λ j. f (i + 1 + j)) ++ r

  pub block_split : concat_below n f ++ r ≡ concat_below i f ++ (f i ++ behind)
  block_split =
      let e : i + 1 + (n - (i + 1)) ≡ n = omega arith in
      let t = concat_below (n - (i + 1)) (λ j. f (i + 1 + j)) in
      ap (λ (k : ℕ). concat_below k f ++ r) (sym e)
      ∙ ap (λ (l : List A). l ++ r) (concat_split f (i + 1) (n - (i + 1)) ∙ ap (λ (l : List A). l ++ t) (concat_next f i))
      ∙ append_assoc (concat_below i f ++ f i) t r
      ∙ append_assoc (concat_below i f) (f i) (t ++ r)

  pub block_drop : drop (length (concat_below i f)) (concat_below n f ++ r) ≡ f i ++ behind
  block_drop = rw block_split (drop-append_seam (concat_below i f) (f i ++ behind))

  pub block_take : take (length (f i)) (drop (length (concat_below i f)) (concat_below n f ++ r)) ≡ f i
  block_take = rw block_drop (take-append_seam (f i) behind)

-- blocks of one length
pub blocks_long : {A : Type 0} (f : ℕ → List A) (m n : ℕ) → ((i : ℕ) → length (f i) ≡ m) → length (concat_below n f) ≡ m * n
unfolding concat_below
blocks_long f m zero h = omega arith
blocks_long f m (suc n) h = omega (arith, length-append (concat_below n f) (f n), blocks_long f m n h, h n, mul-suc m n)
