-- Two answers that meet the promise of finding a page are equal. Assumes nothing.
use Prim.Native.Nat.{ℕ}
use mathlib.Core.Path.{◌≡◌, sym, ◌∙◌}
use mathlib.Core.List.{List}
use Rattle.rules.specs.Says.{Says}
use Rattle.contents.specs.declared.Span.{Span}
use Rattle.contents.specs.Promises.{Finds}

pub one_find : (c : List ℕ) (n i : ℕ) (r q : Says Span) → Finds c n i r → Finds c n i q → r ≡ q
one_find c n i r q a d = a.answer ∙ sym d.answer
