-- What writing says by the tests made so far, and the words that it writes. Assumes nothing.
use Rattle.std.specs.Prelude.{Ok, Err}
use Prim.Native.Nat.{ℕ, ◌+◌, ◌*◌, ◌<◌, ◌≤◌}
use native.Mathlib.Omega.{arith}
use mathlib.Core.Path.{◌≡◌, refl, sym, ap, ◌∙◌}
use mathlib.Core.Bool.{Bool, true, false, not}
use mathlib.Core.List.{List, [], ◌∷◌, ◌++◌}
use lib.Dec.{ltb}
use lib.ListN.{length, length-append}
use borrow.Author.Tests.{lt-ltb, le-ltb, ltb-false}
use Rattle.lists.specs.Choice.{◌if◌else◌}
use Rattle.lists.specs.Below.{concat_below}
use Rattle.lists.specs.Lists.{all, write_at, over_front}
use Rattle.rules.specs.Tables.{Table, none_hold}
use Rattle.lists.proofs.Concat.{blocks_long}
use Rattle.rules.proofs.Tables.{and_then, row_out, none_fault, table_gives, table_after, table_given}
use Rattle.lists.proofs.Tests.{and_right}
use Rattle.lists.proofs.Writes.{write_more, write_front}
use Rattle.rules.specs.Says.{Says, by_table}
use Rattle.rules.specs.Calls.{setting_says}
use Rattle.rules.specs.Setting.{setting_order, setting_check}
use Rattle.rules.specs.Promises.{Validates}
use Rattle.rules.specs.declared.Setting.{Setting}
use Rattle.rules.specs.declared.refusal.Refusal.{Refusal}
use Rattle.contents.specs.Settings.{pair_words, setting_words}
use Rattle.contents.specs.Contents.{front, start_of, starts_of, contents_of}
use Rattle.book.specs.Book.{book_of}
use Rattle.book.specs.Orders.{row_order, asked_order, write_order}
use Rattle.book.specs.Rows.{row_page}
use Rattle.contents.specs.Written.{Wordy, Fronted}
use Rattle.book.specs.Writing.{RowChecks, Asked, AskedNone, RowFits, StartsTo, ContentsWritten}
use Rattle.book.specs.Calls.{write_says}
use Rattle.book.specs.Promises.{Writes}
use Rattle.contents.proofs.Laying.{setting_wordy}
use Rattle.book.proofs.RowLaws.{halves, row_fits, pages_all}
use Rattle.rules.specs.declared.refusal.Refusal.TheVariants as Refusal

-- ---- every refusal but 29: v is the verdict on the setting

module _ (s : Setting) (p : ℕ) (row : List ℕ) where
  abbrev later : Table
  later = (Refusal.Pages, ltb 65535 p) ∷ row_order s p row

  asked_parts : by_table (asked_order s p row) (Ok (tt {0})) ≡ and_then (setting_says s) (by_table later (Ok (tt {0})))
  unfolding asked_order setting_says
  asked_parts = table_after (setting_order s) later (Ok (tt {0}))

  module _ (v : Says (Unit {0})) (q : Validates s v) where
    by_setting : by_table (asked_order s p row) (Ok (tt {0})) ≡ and_then v (by_table later (Ok (tt {0})))
    by_setting = asked_parts ∙ rw (← q.answer)

    pub asked_setting : (k : Refusal) → v ≡ Err k → Asked s p row (Err k)
    asked_setting k e = record { says = sym (by_setting ∙ rw e) }

    module _ (e : v ≡ Ok tt) where
      past_setting : by_table (asked_order s p row) (Ok (tt {0})) ≡ by_table later (Ok (tt {0}))
      past_setting = by_setting ∙ rw e

      pub asked_42 : 65535 < p → Asked s p row (Err Refusal.Pages)
      unfolding by_table
      asked_42 h = record { says = sym (past_setting ∙ rw (lt-ltb 65535 p h)) }

      pub asked_row : p ≤ 65535 → (r : Says (Unit {0})) → RowChecks s p row r → Asked s p row r
      unfolding by_table
      asked_row h r f = record { says = f.says ∙ sym (past_setting ∙ rw (le-ltb 65535 p h)) }

  module _ (a : AskedNone s p row) where
    none_parts : (none_hold (setting_order s) ≡ true) × (none_hold later ≡ true)
    unfolding asked_order
    none_parts = halves (setting_order s) later a.none

    pub asked_accepted : setting_check s ≡ 0
    unfolding setting_check
    asked_accepted = none_fault (setting_order s) none_parts.0

    pub asked_few : p ≤ 65535
    asked_few = ltb-false 65535 p (row_out later 0 none_parts.1)

    pub asked_none : none_hold (row_order s p row) ≡ true
    unfolding all
    asked_none = and_right (not (ltb 65535 p)) (none_hold (row_order s p row)) none_parts.1

    pub asked_fits : RowFits p row
    asked_fits = row_fits s p row asked_none asked_few

-- none refuses
module _ (s : Setting) (p : ℕ) (row : List ℕ) (v : Says (Unit {0})) (a : Asked s p row v) (e : v ≡ Ok tt) where
  pub none_asked : AskedNone s p row
  none_asked = record { none = (table_given (asked_order s p row) tt tt (sym a.says ∙ e)).0 }

  pub none_wordy : Wordy s
  none_wordy = setting_wordy s (asked_accepted s p row none_asked)

  pub none_fits : RowFits p row
  none_fits = asked_fits s p row none_asked

-- ---- the contents, and the book

module _ (s : Setting) (p : ℕ) (f : ℕ → List ℕ) where
  pub starts_long : length (starts_of p f) ≡ 2 * p
  unfolding starts_of
  starts_long = blocks_long (λ i. pair_words (start_of p f i)) 2 p (λ j. refl)

  pub contents_long : length (contents_of s p f) ≡ front p
  unfolding contents_of
  contents_long = omega (arith, length-append (1 ∷ (setting_words s ++ (p ∷ []))) (starts_of p f), starts_long)

  pub book_long : length (book_of s p f) ≡ front p + length (concat_below p f)
  unfolding book_of
  book_long = omega (arith, length-append (contents_of s p f) (concat_below p f), contents_long)

module _ (s : Setting) (p : ℕ) (row : List ℕ) where
  pub contents_written : (old mid new : List ℕ) → Fronted s p old mid → StartsTo p row mid p (length row) new → length mid ≡ length old → ContentsWritten s p row old new
  unfolding contents_of starts_of
  contents_written old mid new a b e = record {
    long = b.long ∙ e;
    words =
        b.words
        ∙ ap (λ (l : List ℕ). write_at l 17 (starts_of p (row_page row))) a.words
        ∙ write_more old 0 (1 ∷ (setting_words s ++ (p ∷ []))) (starts_of p (row_page row)) (omega arith);
  }

  abbrev book : List ℕ
  book = book_of s p (row_page row)

  module _ (f : RowFits p row) where
    book_is : book ≡ contents_of s p (row_page row) ++ row
    unfolding book_of
    book_is = rw (pages_all p row f)

    pub book_words : length book ≡ 17 + 2 * p + length row
    book_words = book_long s p (row_page row) ∙ rw (pages_all p row f) (omega arith)

-- ---- what is said

module _ (s : Setting) (p : ℕ) (row : List ℕ) where
  -- every other refusal, and then the room
  write_parts : (room : ℕ) → write_says s p row room ≡ and_then (by_table (asked_order s p row) (Ok (tt {0}))) (Err Refusal.Buffer if ltb room (length (book s p row)) else Ok (book s p row))
  unfolding write_says write_order by_table
  write_parts room = table_after (asked_order s p row) ((Refusal.Buffer, ltb room (length (book s p row))) ∷ []) (Ok (book s p row))

  -- where none refuses, the room alone
  pub write_says_lem : AskedNone s p row → (room : ℕ) → write_says s p row room ≡ (Err Refusal.Buffer if ltb room (length (book s p row)) else Ok (book s p row))
  write_says_lem a room = write_parts room ∙ rw (table_gives (asked_order s p row) (Ok (tt {0})) a.none)

  module _ (old : List ℕ) where
    pub writes_refused : (v : Says (Unit {0})) → Asked s p row v → (k : Refusal) → v ≡ Err k → Writes s p row old old (Err k)
    writes_refused v a k z =
        let e : write_says s p row (length old) ≡ Err k = write_parts (length old) ∙ rw (← a.says, z) in
        record { answer = rw e; words = rw e }

    module _ (a : AskedNone s p row) (f : RowFits p row) where
      by_room : (t : Bool) → ltb (length old) (17 + 2 * p + length row) ≡ t → write_says s p row (length old) ≡ (Err Refusal.Buffer if t else Ok (book s p row))
      by_room t e = write_says_lem a (length old) ∙ rw (book_words s p row f, e)

      pub writes_29 : length old < 17 + 2 * p + length row → Writes s p row old old (Err Refusal.Buffer)
      writes_29 h = let e = by_room true (lt-ltb _ _ h) in record { answer = rw e; words = rw e }

      pub writes_done : 17 + 2 * p + length row ≤ length old → (mid new : List ℕ) → ContentsWritten s p row old mid → new ≡ write_at mid (17 + 2 * p) row
          → Writes s p row old new (Ok (17 + 2 * p + length row))
      writes_done h mid new c e =
          let z = by_room false (le-ltb _ _ h) in
          let k : 17 + 2 * p ≡ 0 + length (contents_of s p (row_page row)) = omega (arith, contents_long s p (row_page row)) in
          let w : new ≡ over_front (book s p row) old
          = e
          ∙ ap (λ (l : List ℕ). write_at l (17 + 2 * p) row) c.words
          ∙ ap (λ (n : ℕ). write_at (write_at old 0 (contents_of s p (row_page row))) n row) k
          ∙ write_more old 0 (contents_of s p (row_page row)) row (omega arith)
          ∙ ap (write_at old 0) (sym (book_is s p row f))
          ∙ write_front old (book s p row) in
          record { answer = rw (z, book_words s p row f); words = rw z w }
