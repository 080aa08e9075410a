-- What the tests of a grid tell of its side. Assumes nothing.
use Rattle.std.specs.Prelude.{Ok, Err}
use Prim.Native.Nat.{ℕ}
use native.Mathlib.Omega.{arith}
use mathlib.Core.Path.{◌≡◌, sym, ap, ◌∙◌}
use mathlib.Core.Bool.{true, false, true≢false, or-true}
use lib.Dec.{T, leb, leb→le}
use lib.IntN.{ℤ, pos, negsuc, nat_abs}
use lib.Signed.{lt_z}
use mir.Syntax.{w32}
use mir.Val.{SFits, to_z, of_z}
use mir.Facts.{to_z-of_z}
use borrow.Author.Tests.{lt-ltb, ltb-true}
use Rattle.rules.specs.View.{lit}
use Rattle.rules.specs.Says.{box, by_table}
use Rattle.rules.specs.Calls.{space_says}
use Rattle.rules.specs.declared.refusal.Refusal.{Refusal}

-- above a bound from 32 on, so above 32
higher : (k : ℕ) (g : ℤ) → T (leb 32 k) → lt_z (pos k) g ≡ true → lt_z (pos 32) g ≡ true
higher k (pos g) b h = lt-ltb 32 g (omega (arith, leb→le 32 k b, ltb-true k g h))
higher k (negsuc g) b h = absurd (true≢false (sym h))

boxed : (g : ℤ) → lt_z (pos 32) g ≡ false → lt_z g (pos 1) ≡ false → Ok (box 5 (nat_abs g) (nat_abs g) (lit false) (lit true)) ≡ space_says g
unfolding space_says by_table
boxed (pos g) h l = rw (h, l)
boxed (negsuc g) h l = absurd (true≢false l)

-- a signed number is tested as the machine reads it back
module _ (g : ℤ) (f : SFits w32 g) where
  pub space_high : (k : ℕ) → lt_z (pos k) (to_z w32 (of_z w32 g)) ≡ true → T (leb 32 k) → (x : Refusal) → x ≡ Refusal.Grid → Err x ≡ space_says g
  unfolding space_says by_table
  space_high k h b x r = let t = higher k g b (rw (to_z-of_z f) at h) in rw (r, t)

  pub space_low : lt_z (to_z w32 (of_z w32 g)) (pos 1) ≡ true → (x : Refusal) → x ≡ Refusal.Grid → Err x ≡ space_says g
  unfolding space_says by_table
  space_low l x r = let u = rw (to_z-of_z f) at l in rw (r, u, or-true (lt_z (pos 32) g))

  pub space_box : lt_z (to_z w32 (of_z w32 g)) (pos 1) ≡ false → lt_z (pos 32) (to_z w32 (of_z w32 g)) ≡ false
      → Ok (box 5 (nat_abs (to_z w32 (of_z w32 g))) (nat_abs (to_z w32 (of_z w32 g))) (lit false) (lit true)) ≡ space_says g
  space_box l h = boxed (to_z w32 (of_z w32 g)) h l ∙ ap space_says (to_z-of_z f)
