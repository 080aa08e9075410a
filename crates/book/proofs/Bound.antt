-- A book that is bound of pages, read again: its setting, its starts, its pages. Assumes nothing.
use Rattle.std.specs.Prelude.{Option, Some, None}
use Prim.Native.Nat.{ℕ, ◌+◌, ◌*◌, ◌-◌, ◌/◌, ◌%◌, ◌<◌, ◌≤◌}
use native.Mathlib.Omega.{arith}
use mathlib.Core.Path.{◌≡◌, refl, sym, ap, ◌∙◌}
use mathlib.Core.Bool.{false}
use mathlib.Core.List.{List, [], ◌∷◌, ◌++◌, append-nil, append_assoc}
use lib.ListN.{length, take, drop, length-append, get_or-append}
use lib.Seq.{get_or-drop, get_or-append-add, drop-append-add, take-append_seam, drop_at}
use Rattle.lists.specs.Below.{concat_below}
use Rattle.lists.proofs.Below.{concat_next}
use Rattle.lists.proofs.Concat.{block_drop, behind, blocks_long}
use Rattle.lists.proofs.Tests.{ordered, less, more, bit_le}
use Rattle.rules.specs.Image.{word}
use Rattle.rules.specs.Setting.{setting_check}
use Rattle.rules.specs.declared.Setting.{Setting}
use Rattle.rules.proofs.Image.{bit_back}
use Rattle.rules.proofs.SettingFacts.{accepts}
use Rattle.contents.specs.Settings.{pair_words, four_words, four_at, limit_words, limit_at, limit_off, setting_words, setting_in}
use Rattle.contents.specs.Contents.{front, start_of, starts_of, contents_of, pages_in, start_in, end_in}
use Rattle.book.specs.Book.{book_of, page_in}
use Rattle.book.proofs.Booked.{contents_long, book_long}

plus_zero : (n : ℕ) → n ≡ n + 0
plus_zero n = omega arith

plus_one : (n : ℕ) → 1 + n ≡ n + 1
plus_one n = omega arith

-- ---- a number's words, read again

pub pair_back : (k : ℕ) → k % 65536 + 65536 * (k / 65536) ≡ k
pair_back k = omega arith

pub four_back : (k : ℕ) → four_at (four_words k) 0 ≡ k
four_back k = omega arith

pub limit_back : (l : Option ℕ) → limit_at (limit_words l) 0 ≡ l
limit_back None = refl
limit_back (Some k) = ap Some (four_back k)

-- what limits write is never off the layout
limit_on : (l : Option ℕ) → limit_off (limit_words l) 0 ≡ false
limit_on None = refl
limit_on (Some k) = refl

module _ (s : Setting) (p : ℕ) (f : ℕ → List ℕ) where
  abbrev book : List ℕ
  book = book_of s p f

  abbrev head : List ℕ
  head = 1 ∷ (setting_words s ++ (p ∷ []))

  abbrev pairs : ℕ → List ℕ
  pairs i = pair_words (start_of p f i)

  -- ---- the setting

  pub bound_pages : pages_in book ≡ p
  unfolding book_of contents_of
  bound_pages = refl

  pub bound_one : word book 0 ≡ 1
  unfolding book_of contents_of
  bound_one = refl

  pub bound_last : word book 4 ≤ 1
  unfolding book_of contents_of
  bound_last = bit_le s.play_to_last

  pub bound_lead : limit_off book 5 ≡ false
  unfolding book_of contents_of
  bound_lead = limit_on s.win_food_lead

  pub bound_ticks : limit_off book 11 ≡ false
  unfolding book_of contents_of
  bound_ticks = limit_on s.max_ticks

  pub bound_setting : setting_check s ≡ 0 → setting_in book ≡ s
  unfolding book_of contents_of setting_in
  bound_setting e = rw (bit_back s.play_to_last, sym (accepts s e).grid_is, limit_back s.win_food_lead, limit_back s.max_ticks)

  -- ---- the starts

  past_head : book ≡ head ++ (concat_below p pairs ++ concat_below p f)
  unfolding book_of contents_of starts_of
  past_head = append_assoc head (concat_below p pairs) (concat_below p f)

  pairs_long : (i : ℕ) → length (concat_below i pairs) ≡ 2 * i
  pairs_long i = blocks_long pairs 2 i (λ j. refl)

  -- word j of the pair of start i
  start_word_lem : (i j : ℕ) → i < p → j < 2 → word book (17 + 2 * i + j) ≡ word (pairs i) j
  start_word_lem i j h g =
      let rest = concat_below p pairs ++ concat_below p f in
      let e : 17 + 2 * i + j ≡ length head + (2 * i + j) = omega arith in
      ap (λ (l : List ℕ). word l (17 + 2 * i + j)) past_head
      ∙ ap (word (head ++ rest)) e
      ∙ get_or-append-add head rest (2 * i + j) 0
      ∙ sym (get_or-drop (2 * i) rest j 0)
      ∙ ap (λ (n : ℕ). word (drop n rest) j) (sym (pairs_long i))
      ∙ ap (λ (l : List ℕ). word l j) (block_drop pairs i p h (concat_below p f))
      ∙ get_or-append (pairs i) (behind pairs i p h (concat_below p f)) 0 j g

  pub bound_start : (i : ℕ) → i < p → start_in book i ≡ start_of p f i
  bound_start i h =
      let low : word book (17 + 2 * i) ≡ start_of p f i % 65536 = ap (word book) (plus_zero (17 + 2 * i)) ∙ start_word_lem i 0 h (omega arith) in
      let high : word book (1 + (17 + 2 * i)) ≡ start_of p f i / 65536 = ap (word book) (plus_one (17 + 2 * i)) ∙ start_word_lem i 1 h (omega arith) in
      rw (low, high) (pair_back (start_of p f i))

  pub start_step : (i : ℕ) → start_of p f (1 + i) ≡ start_of p f i + length (f i)
  start_step i =
      let e : 1 + i ≡ i + 1 = omega arith in
      rw (e, concat_next f i) (omega (arith, length-append (concat_below i f) (f i)))

  pub bound_long : length book ≡ start_of p f p
  bound_long = book_long s p f

  pub bound_end : (i : ℕ) → i < p → end_in book (length book) i ≡ start_of p f (1 + i)
  bound_end i h = rw bound_pages (elim (ordered (1 + i) p) [
    | less l t ↦ rw t (bound_start (1 + i) l)
    | more l t ↦ rw t (let e : 1 + i ≡ p = omega arith in rw e bound_long)
  ])

  -- ---- the pages

  from_start : (i : ℕ) (h : i < p) → drop (start_of p f i) book ≡ f i ++ behind f i p h []
  unfolding book_of
  from_start i h =
      ap (λ (n : ℕ). drop (n + length (concat_below i f)) book) (sym (contents_long s p f))
      ∙ drop-append-add (contents_of s p f) (concat_below p f) (length (concat_below i f))
      ∙ ap (drop (length (concat_below i f))) (sym (append-nil (concat_below p f)))
      ∙ block_drop f i p h []

  pub bound_page : (i : ℕ) → i < p → page_in book i ≡ f i
  unfolding page_in
  bound_page i h =
      let n : start_of p f (1 + i) - start_of p f i ≡ length (f i) = omega (arith, start_step i) in
      rw (bound_end i h, bound_start i h, n) (ap (take (length (f i))) (from_start i h) ∙ take-append_seam (f i) (behind f i p h []))

  pub bound_rest : drop (front p) book ≡ concat_below p f
  unfolding book_of
  bound_rest = drop_at (contents_of s p f) (concat_below p f) (front p) (contents_long s p f)
