-- Causes by number, for callers and lines that know numbers alone. Assumes nothing.
use Rattle.std.specs.Prelude.{ℕ, zero, suc, ◌≡◌, ◌≤◌, Option, Some, None}
use mathlib.Core.Path.{refl}
use native.Mathlib.Omega.{arith}
use Rattle.rules.specs.declared.Cause.{Cause}
use Rattle.rules.specs.declared.Cause.TheVariants.{Wall, SelfBody, OppBody, HeadOn}

abbrev pub cause_number : Option Cause → ℕ
cause_number None = 0
cause_number (Some Wall) = 1
cause_number (Some SelfBody) = 2
cause_number (Some OppBody) = 3
cause_number (Some HeadOn) = 4

-- 1 Wall, 2 SelfBody, 3 OppBody, 4 HeadOn; any other number is no cause
abbrev pub cause_in : ℕ → Option Cause
cause_in zero = None
cause_in (suc zero) = Some Wall
cause_in (suc (suc zero)) = Some SelfBody
cause_in (suc (suc (suc zero))) = Some OppBody
cause_in (suc (suc (suc (suc zero)))) = Some HeadOn
cause_in (suc (suc (suc (suc (suc n))))) = None

-- the numbers of causes and back
pub code_back : (n : ℕ) → n ≤ 4 → cause_number (cause_in n) ≡ n
code_back zero h = refl
code_back (suc zero) h = refl
code_back (suc (suc zero)) h = refl
code_back (suc (suc (suc zero))) h = refl
code_back (suc (suc (suc (suc zero)))) h = refl
code_back (suc (suc (suc (suc (suc n))))) h = absurd (omega (arith, h))
