-- Reading a page looks at the contents and that page alone. Assumes nothing.
use Rattle.std.specs.Prelude.{Ok, Err}
use Prim.Native.Nat.{ℕ, ◌<◌}
use mathlib.Core.Path.{◌≡◌, refl, sym, ap, ap₂, ◌∙◌}
use mathlib.Core.List.{List}
use lib.Dec.{ltb}
use lib.ListN.{length, take, drop}
use Rattle.rules.specs.Image.{word}
use Rattle.rules.specs.Says.{Says, by_table}
use Rattle.rules.specs.declared.Setting.{Setting}
use Rattle.contents.specs.Settings.{setting_in}
use Rattle.contents.specs.Contents.{front, pages_in}
use Rattle.contents.specs.Calls.{find_says}
use Rattle.contents.specs.declared.Span.{Span}
use Rattle.contents.proofs.Alone.{find_same, setting_same}
use Rattle.contents.proofs.Finding.{find_is}
use Rattle.book.specs.Book.{page_in}
use Rattle.book.specs.Orders.{page_rows}
use Rattle.book.specs.Calls.{page_says, then_read}
use Rattle.book.proofs.Paging.{page_says_lem}

-- b and c are as long, and have the same contents and the same page i
module _ (b c : List ℕ) (long : length b ≡ length c) (contents : (k : ℕ) → k < front (pages_in b) → word b k ≡ word c k) (i : ℕ) (page : page_in b i ≡ page_in c i) where
  found_same : find_says b (length b) i ≡ find_says c (length c) i
  found_same =
      find_same b c (length b) (ap (λ (m : ℕ). ltb m 17) long) (ap (λ (m : ℕ). ltb m (front (pages_in b))) long) contents i
      ∙ ap (λ (m : ℕ). find_says c m i) long

  settings : setting_in b ≡ setting_in c
  settings = setting_same b c (length b) (ap (λ (m : ℕ). ltb m 17) long) (ap (λ (m : ℕ). ltb m (front (pages_in b))) long) contents

  -- the page of a book, where it was found
  words_of : (d : List ℕ) (q : Span) → find_says d (length d) i ≡ Ok q → take q.len (drop q.start d) ≡ page_in d i
  unfolding page_in
  words_of d q e = ap (λ (z : Span). take z.len (drop z.start d)) (sym (find_is d (length d) i q e))

  read_same : (x : Says Span) → find_says b (length b) i ≡ x → find_says c (length c) i ≡ x → then_read b x ≡ then_read c x
  read_same (Err k) e f = refl
  read_same (Ok q) e f =
      ap₂ (λ (s : Setting) (w : List ℕ). by_table (page_rows s w) (Ok q)) settings (words_of b q e ∙ page ∙ sym (words_of c q f))

  pub page_alone : page_says b i ≡ page_says c i
  page_alone =
      page_says_lem b i
      ∙ read_same (find_says b (length b) i) refl (sym found_same)
      ∙ ap (then_read c) found_same
      ∙ sym (page_says_lem c i)
