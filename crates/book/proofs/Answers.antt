-- Two answers that meet one promise are equal, and so is what is lent. Assumes nothing.
use Prim.Native.Nat.{ℕ}
use mathlib.Core.Path.{◌≡◌, sym, ◌∙◌}
use mathlib.Core.List.{List}
use denote.Ref.{Bor}
use Rattle.rules.specs.declared.Setting.{Setting}
use Rattle.contents.specs.declared.Span.{Span}
use Rattle.book.specs.Promises.{Writes, Pages, Hands}
use Rattle.rules.specs.Says.{Says}

pub one_write : (s : Setting) (p : ℕ) (row old new other : List ℕ) (r q : Says ℕ) → Writes s p row old new r → Writes s p row old other q → (r ≡ q) × (new ≡ other)
one_write s p row old new other r q a b = ((a.answer ∙ sym b.answer), a.words ∙ sym b.words)

pub one_page : (b : List ℕ) (i : ℕ) (r q : Says Span) → Pages b i r → Pages b i q → r ≡ q
one_page b i r q a c = a.answer ∙ sym c.answer

-- two parts that reading hands back have equal words at one address
pub one_read : (book r q : Bor (List ℕ)) (i : ℕ) → Hands book i r → Hands book i q → (r.now ≡ q.now) × (r.ref_ptr ≡ q.ref_ptr)
one_read book r q i a b = (a.words ∙ sym b.words, a.place ∙ sym b.place)
