-- A choice by tests, read from the top: `a if t else b if u else c`; a test as a number, the first number that is not 0. Assumes nothing.
use Rattle.std.specs.Prelude.{ℕ, zero, suc, Bool, true, false, cond}

-- below every operator, those of the integers included
infixr 5 ◌if◌else◌
abbrev pub ◌if◌else◌ : {A : Type 0} → A → Bool → A → A
a if true else b = a
a if false else b = b

abbrev pub bit : Bool → ℕ
bit b = cond b 1 0

-- the first number that is not 0
abbrev pub first_of : ℕ → ℕ → ℕ
first_of zero r = r
first_of (suc k) r = suc k
