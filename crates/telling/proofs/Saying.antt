-- A lent array after an answer and after a refusal. Assumes nothing.
use Rattle.std.specs.Prelude.{Ok, Err}
use Prim.Native.Nat.{ℕ}
use mathlib.Core.Path.{◌≡◌, sym, ap, ◌∙◌}
use mathlib.Core.List.{List, [], ◌∷◌}
use Rattle.rules.specs.Says.{Says}
use Rattle.rules.specs.declared.refusal.Refusal.{Refusal}
use Rattle.flat.specs.Flat.{refusal_number}
use Rattle.telling.specs.Told.{refusal_of, told, one, Tells}

-- ---- one lent array

module _ {A B : Type 0} (f : A → List B) (x : Says A) (old : List B) where
  pub given : (a : A) → Ok a ≡ x → Tells f x old (f a) 0
  given a e = record { refusal = ap refusal_of e; answer = ap (told f old) e }

  pub refused : (k : Refusal) → Err k ≡ x → (r : ℕ) → r ≡ refusal_number k → Tells f x old old r
  refused k e r p = record { refusal = p ∙ ap refusal_of e; answer = ap (told f old) e }

  -- the same of what is equal
  pub tells_by : (y : Says A) (new : List B) (r : ℕ) → Tells f x old new r → x ≡ y → Tells f y old new r
  tells_by y new r t e = record { refusal = t.refusal ∙ ap refusal_of e; answer = t.answer ∙ ap (told f old) e }

pub number_told : (a : Says ℕ) (n : ℕ) → a ≡ Ok n → (old : List ℕ) → Tells one a old (n ∷ []) 0
number_told a n e old = given one a old n (sym e)

pub number_refused : (a : Says ℕ) (k : Refusal) → a ≡ Err k → (old : List ℕ) (r : ℕ) → r ≡ refusal_number k → Tells one a old old r
number_refused a k e old = refused one a old k (sym e)
