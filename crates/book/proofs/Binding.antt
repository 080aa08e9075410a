-- Pages that make a book: its contents are accepted, each page is read again, and writing them gives it. Assumes nothing.
use Rattle.std.specs.Prelude.{Ok}
use Prim.Native.Nat.{ℕ, zero, suc, ◌+◌, ◌*◌, ◌-◌, ◌<◌, ◌≤◌}
use native.Mathlib.Nat.{min-eq_left}
use native.Mathlib.Omega.{arith}
use mathlib.Core.Path.{◌≡◌, refl, sym, ap, ap₂, ◌∙◌}
use mathlib.Core.Bool.{Bool, true, not}
use mathlib.Core.List.{List, [], ◌∷◌, ◌++◌, append-nil}
use lib.Dec.{ltb}
use lib.ListN.{length, take, drop, length-append, take-append-drop, get_or-append}
use lib.Seq.{take-append_seam, length-take-le}
use borrow.Author.Tests.{le-ltb, le-leb}
use Rattle.lists.specs.Below.{sum_below, concat_below}
use Rattle.lists.specs.Lists.{all}
use Rattle.rules.specs.Tables.{Table, none_hold}
use Rattle.lists.proofs.Below.{sum_ext, concat_mono, concat_ext}
use Rattle.lists.proofs.Concat.{block_drop, behind}
use Rattle.lists.proofs.Lists.{all_append}
use Rattle.lists.proofs.Tests.{both}
use Rattle.rules.specs.Facts.{Sound}
use Rattle.rules.specs.Image.{word, front as image_front, snakes_in, length_at, long_enough, well_formed}
use Rattle.rules.specs.declared.Setting.{Setting}
use Rattle.rules.proofs.Facts.{sound}
use Rattle.rules.proofs.Tables.{fault_none, table_gives, table_given}
use Rattle.rules.proofs.Faults.{none_after}
use Rattle.rules.specs.Setting.{setting_order, setting_check}
use Rattle.rules.specs.declared.refusal.Refusal.{Refusal}
use Rattle.contents.specs.Settings.{pair_words, setting_words}
use Rattle.contents.specs.Contents.{front, start_of, starts_of, contents_of, pages_in, start_in}
use Rattle.book.specs.Book.{book_of}
use Rattle.book.specs.Orders.{page_rows, row_order, asked_order, write_order}
use Rattle.book.specs.Rows.{told_length, row_start, row_page}
use Rattle.contents.specs.Accepted.{Accepted}
use Rattle.book.specs.Bindable.{Bindable}
use Rattle.book.specs.Calls.{page_says, write_says}
use Rattle.book.specs.Writing.{AskedNone, RowFits}
use Rattle.contents.proofs.Finding.{accepted}
use Rattle.book.proofs.Paging.{past_41}
use Rattle.contents.proofs.Clear.{clear}
use Rattle.book.proofs.Bound.{bound_pages, bound_one, bound_last, bound_lead, bound_ticks, bound_setting, bound_start, start_step, bound_long, bound_end, bound_page}
use Rattle.book.proofs.Booked.{asked_accepted, asked_few, asked_none, asked_fits, write_says_lem}
use Rattle.book.proofs.RowLaws.{halves, told_by, blocks_none, rows, row_formed, row_same}
use Rattle.rules.specs.declared.refusal.Refusal.TheVariants as Refusal

-- page 0 starts right after the contents
start_zero : (p : ℕ) (f : ℕ → List ℕ) → start_of p f 0 ≡ front p
unfolding concat_below
start_zero p f = omega arith

-- ---- its contents are accepted

module _ (s : Setting) (p : ℕ) (f : ℕ → List ℕ) (ok : Bindable s p f) where
  abbrev book : List ℕ
  book = book_of s p f

  page_some : (i : ℕ) → i < p → 0 < length (f i)
  page_some i h = omega (arith, (sound (f i) (ok.formed i h)).five)

  start_rises : (i : ℕ) → 1 + i < p → start_in book i < start_in book (1 + i)
  start_rises i h = rw (bound_start s p f i (omega arith), bound_start s p f (1 + i) h) (omega (arith, start_step s p f i, page_some i (omega arith)))

  start_in_lem : (i : ℕ) → i < p → start_in book i < length book
  start_in_lem i h = rw (bound_start s p f i h, bound_long s p f) (omega (arith, start_step s p f i, page_some i h, concat_mono f (1 + i) p (omega arith)))

  pub bound_opens : Accepted book (length book)
  bound_opens =
      accepted
      book
      (length book)
      (clear
      book
      (length book)
      (rw (bound_long s p f) (omega arith))
      (bound_one s p f)
      (bound_last s p f)
      (bound_lead s p f)
      (bound_ticks s p f)
      (rw (bound_setting s p f ok.accepted) ok.accepted)
      (rw (bound_pages s p f, bound_long s p f) (omega arith))
      (λ h. first_start (rw (bound_pages s p f) at h))
      (λ i h. start_rises i (rw (bound_pages s p f) at h))
      (λ i h. start_in_lem i (rw (bound_pages s p f) at h))
      (λ z. none_left (sym (bound_pages s p f) ∙ z)))
    where
      first_start : 0 < p → start_in book 0 ≡ front (pages_in book)
      first_start h = bound_start s p f 0 h ∙ rw (bound_pages s p f) (start_zero p f)

      none_left : p ≡ 0 → length book ≤ 17
      none_left z = rw (bound_long s p f, z) (omega (arith, start_zero 0 f))

  -- ---- each page is read again

  page_passes : (i : ℕ) → i < p → none_hold (page_rows s (f i)) ≡ true
  unfolding all
  page_passes i h = none_after (f i) _ (ok.formed i h) (rw (ok.same i h))

  pub bound_reads : (i : ℕ) → i < p → page_says book i ≡ Ok (record { start = start_of p f i; len = length (f i) })
  bound_reads i h =
      let n : start_of p f (1 + i) - start_of p f i ≡ length (f i) = omega (arith, start_step s p f i) in
      past_41 book i bound_opens (rw (bound_pages s p f) h)
      ∙ rw (bound_setting s p f ok.accepted, bound_page s p f i h, bound_end s p f i h, bound_start s p f i h, n) (table_gives (page_rows s (f i)) _ (page_passes i h))

-- ---- the image at a place

-- the contents of a well-formed image tell its length, whatever stands after it
module _ (w r : List ℕ) (e : well_formed w ≡ true) where
  image : Sound w
  image = sound w e

  word_same : (k : ℕ) → k < length w → word (w ++ r) k ≡ word w k
  word_same k h = get_or-append w r 0 k h

  snakes_same : snakes_in (w ++ r) ≡ snakes_in w
  snakes_same = word_same 0 (omega (arith, image.five))

  lengths_same : sum_below (snakes_in w) (length_at (w ++ r)) ≡ sum_below (snakes_in w) (length_at w)
  lengths_same = sum_ext (snakes_in w) (length_at (w ++ r)) (length_at w) (λ i h. word_same (6 + 4 * i) (omega (arith, image.records_in)))

  longer : long_enough (w ++ r) ≡ true
  unfolding long_enough
  longer =
      rw (le-leb 5 (length (w ++ r)) (omega (arith, length-append w r, image.five)), snakes_same, le-leb (image_front (snakes_in w)) (length (w ++ r)) (omega (arith, length-append w r, image.records_in)))

  pub told_front : told_length (w ++ r) ≡ length w
  told_front =
      told_by (w ++ r) true longer
      ∙ rw (snakes_same, lengths_same, word_same 4 (omega (arith, image.five)), image.total) (min-eq_left (omega (arith, length-append w r)))

-- so at most one part there is well-formed, and it is as long as its contents tell
pub one_image : (w : List ℕ) (k : ℕ) → k ≤ length w → well_formed (take k w) ≡ true → k ≡ told_length w
one_image w k h e =
    let split : take k w ++ drop k w ≡ w = take-append-drop k w in
    sym (ap told_length (sym split) ∙ told_front (take k w) (drop k w) e ∙ length-take-le k w h)

-- ---- pages in a row

module _ (p : ℕ) (f : ℕ → List ℕ) (formed : (i : ℕ) → i < p → well_formed (f i) ≡ true) where
  abbrev row : List ℕ
  row = concat_below p f

  from_page : (i : ℕ) (h : i < p) → drop (length (concat_below i f)) row ≡ f i ++ behind f i p h []
  from_page i h = ap (drop (length (concat_below i f))) (sym (append-nil row)) ∙ block_drop f i p h []

  told_page : (i : ℕ) → i < p → told_length (drop (length (concat_below i f)) row) ≡ length (f i)
  told_page i h = ap told_length (from_page i h) ∙ told_front (f i) (behind f i p h []) (formed i h)

  pub row_start_lem : (i : ℕ) → i ≤ p → row_start row i ≡ length (concat_below i f)
  unfolding row_start concat_below
  row_start_lem zero h = refl
  row_start_lem (suc i) h =
      let e = row_start_lem i (omega arith) in
      rw (e, told_page i h) (sym (length-append (concat_below i f) (f i)))

  pub row_page_lem : (i : ℕ) → i < p → row_page row i ≡ f i
  unfolding row_page
  row_page_lem i h =
      let e : row_start row i ≡ length (concat_below i f) = row_start_lem i (omega arith) in
      rw (e, told_page i h) (ap (take (length (f i))) (from_page i h) ∙ take-append_seam (f i) (behind f i p h []))

-- a book depends on its pages alone
module _ (s : Setting) (p : ℕ) (f g : ℕ → List ℕ) (e : (i : ℕ) → i < p → f i ≡ g i) where
  same_start : (i : ℕ) → i < p → pair_words (start_of p f i) ≡ pair_words (start_of p g i)
  same_start i h = ap (λ (l : List ℕ). pair_words (front p + length l)) (concat_ext i f g (λ j k. e j (omega arith)))

  pub book_same : book_of s p f ≡ book_of s p g
  unfolding book_of contents_of starts_of
  book_same =
      ap₂
      (λ (a b : List ℕ). (1 ∷ (setting_words s ++ (p ∷ []))) ++ a ++ b)
      (concat_ext p (λ i. pair_words (start_of p f i)) (λ i. pair_words (start_of p g i)) same_start)
      (concat_ext p f g e)

-- ---- what writing says of pages that make a book

-- two tables none of whose rows hold
join : (t u : Table) → none_hold t ≡ true → none_hold u ≡ true → none_hold (t ++ u) ≡ true
join t u a b = all_append (λ (e : Refusal × Bool). not e.1) t u ∙ both a b

module _ (s : Setting) (p : ℕ) (f : ℕ → List ℕ) (ok : Bindable s p f) where
  abbrev line : List ℕ
  line = concat_below p f

  line_pages : (i : ℕ) → i < p → row_page line i ≡ f i
  line_pages = row_page_lem p f ok.formed

  line_none : none_hold (row_order s p line) ≡ true
  unfolding row_order all
  line_none =
      join (concat_below p (rows s line)) _
      (blocks_none (rows s line) p (λ j h. rw (line_pages j h) (page_passes s p f ok j h)))
      (rw (le-ltb (row_start line p) (length line) (omega (arith, row_start_lem p f ok.formed p (omega arith)))))

  line_asked : AskedNone s p line
  unfolding asked_order setting_check all
  line_asked = record { none = join (setting_order s) ((Refusal.Pages, ltb 65535 p) ∷ row_order s p line) (fault_none (setting_order s) ok.accepted) (rw (le-ltb 65535 p ok.few) line_none) }

  pub line_writes : (room : ℕ) → length (book_of s p f) ≤ room → write_says s p line room ≡ Ok (book_of s p f)
  line_writes room h =
      let e : book_of s p (row_page line) ≡ book_of s p f = book_same s p (row_page line) f line_pages in
      write_says_lem s p line line_asked room ∙ rw (e, le-ltb room (length (book_of s p f)) h)

-- ---- what writing gives

module _ (s : Setting) (p : ℕ) (row : List ℕ) (room : ℕ) (b : List ℕ) (e : write_says s p row room ≡ Ok b) where
  table : (none_hold (write_order s p row room) ≡ true) × (book_of s p (row_page row) ≡ b)
  unfolding write_says
  table = table_given (write_order s p row room) (book_of s p (row_page row)) b e

  pub written_asked : AskedNone s p row
  unfolding write_order
  written_asked = record { none = (halves (asked_order s p row) _ table.0).0 }

  pub written_is : book_of s p (row_page row) ≡ b
  written_is = table.1

  pub written_binds : Bindable s p (row_page row)
  written_binds = record {
    accepted = asked_accepted s p row written_asked;
    few = asked_few s p row written_asked;
    formed = row_formed s p row (asked_none s p row written_asked);
    same = row_same s p row (asked_none s p row written_asked);
  }

  pub written_fits : RowFits p row
  written_fits = asked_fits s p row written_asked
