-- A heading's word that is none of 0, 1 and 2. Assumes nothing.
use Prim.Native.Nat.{ℕ, zero, suc}
use mathlib.Core.Path.{◌≡◌, refl}
use Rattle.rules.specs.Headings.{heading_of}
use Rattle.rules.specs.declared.Heading.TheVariants.{Left}

pub heading_last : (word : ℕ) → (word ≡ 0 → ⊥) → (word ≡ 1 → ⊥) → (word ≡ 2 → ⊥) → Left ≡ heading_of word
heading_last zero a b c = absurd (a refl)
heading_last (suc zero) a b c = absurd (b refl)
heading_last (suc (suc zero)) a b c = absurd (c refl)
heading_last (suc (suc (suc k))) a b c = refl
