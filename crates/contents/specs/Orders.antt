-- Refusals 40 and 41 as tables: a row is a refusal's number and when it is given (02, wish 1). c is the front of a book of n words, and may be all of it; a whole book
-- b is read by b and its length. Assumes nothing.
use Rattle.std.specs.Prelude.{ℕ, ◌+◌, ◌-◌, Bool, not, ◌&&◌, List, [], ◌∷◌, ◌++◌, leb, ltb, eqb, length}
use Rattle.lists.specs.Below.{all_below, some_below}
use Rattle.rules.specs.Tables.{Table}
use Rattle.rules.specs.Image.{word}
use Rattle.rules.specs.Setting.{setting_check}
use Rattle.contents.specs.Settings.{limit_off, setting_in}
use Rattle.contents.specs.Contents.{front, pages_in, start_in}
use Rattle.rules.specs.declared.refusal.Refusal.TheVariants as Refusal

-- 'contents .. off this layout (yes/no words above 1 too) or with a refused setting'
unfoldable pub layout_rows : List ℕ → Table
layout_rows c =
    (Refusal.Contents, not (eqb (word c 0) 1))
    ∷ (Refusal.Contents, ltb 1 (word c 4))
    ∷ (Refusal.Contents, limit_off c 5)
    ∷ (Refusal.Contents, limit_off c 11)
    ∷ (Refusal.Contents, not (eqb (setting_check (setting_in c)) 0))
    ∷ []

-- start i and the next
abbrev pub rises : List ℕ → ℕ → Bool
rises c i = ltb (start_in c i) (start_in c (1 + i))

-- no word of the book stands there
abbrev pub outside : List ℕ → ℕ → ℕ → Bool
outside c n i = leb n (start_in c i)

-- 'contents cut short' by the number of pages; 'starts not rising from right after the contents, one outside the book, or words left in a book of no pages'
unfoldable pub start_rows : List ℕ → ℕ → Table
start_rows c n =
    (Refusal.Contents, ltb (length c) (front (pages_in c)))
    ∷ (Refusal.Contents, ltb 0 (pages_in c) && not (eqb (start_in c 0) (front (pages_in c))))
    ∷ (Refusal.Contents, not (all_below (pages_in c - 1) (rises c)))
    ∷ (Refusal.Contents, some_below (pages_in c) (outside c n))
    ∷ (Refusal.Contents, eqb (pages_in c) 0 && ltb 17 n)
    ∷ []

-- '40 contents cut short ..'
unfoldable pub contents_order : List ℕ → ℕ → Table
contents_order c n = (Refusal.Contents, ltb (length c) 17) ∷ (layout_rows c ++ start_rows c n)

-- '40 ..; then 41 no such page'
unfoldable pub find_order : List ℕ → ℕ → ℕ → Table
find_order c n i = contents_order c n ++ ((Refusal.Page, not (ltb i (pages_in c))) ∷ [])
