-- What `filled` says, of lists: a table whose every place says what f gives. Assumes nothing.
use Rattle.std.proofs.Common.{◌≡◌, ◌<◌, ℕ, ◌-◌, List, sym, ◌∙◌, arith, length, get_or}
use mathlib.Core.List.{append-nil}
use lib.Seq.{ext_get_or}
use Rattle.lists.specs.Below.{each_below, filled}
use Rattle.lists.proofs.Below.{each_long, each_at}

module _ {B : Type 0} where
  pub filled_full : (f : ℕ → B) (n : ℕ) (b : B) (ys : List B) → length ys ≡ n → ((i : ℕ) → i < n → get_or ys i b ≡ f i) → ys ≡ filled f n n b
  unfolding filled
  filled_full f n b ys l h =
      let none : n - n ≡ 0 = omega arith in
      ext_get_or b ys (each_below n f) (l ∙ sym (each_long n f)) (λ i k. let lt : i < n = omega arith in h i lt ∙ sym (each_at n f b i lt))
      ∙ rw (none, append-nil)
