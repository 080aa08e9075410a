-- What reading a page says, by the tests made so far: what is found by the contents, then the faults and 21 for that page. Assumes nothing.
use Rattle.std.specs.Prelude.{Ok, Err}
use Prim.Native.Nat.{ℕ, ◌+◌, ◌<◌, ◌≤◌}
use native.Mathlib.Omega.{arith}
use mathlib.Core.Path.{◌≡◌, refl, sym, ap, ◌∙◌}
use mathlib.Core.Bool.{Bool, true, false}
use Rattle.lists.specs.Choice.{◌if◌else◌}
use mathlib.Core.List.{List, [], ◌∷◌, append-nil}
use lib.ListN.{length, take, drop}
use denote.Ref.{Bor}
use Rattle.rules.specs.Tables.{Table, none_hold}
use Rattle.rules.proofs.Tables.{and_then, row_out, table_both, table_after, table_given}
use Rattle.rules.proofs.Faults.{no_fault, rows_formed, rows_after}
use Rattle.rules.specs.Image.{well_formed}
use Rattle.rules.specs.Orders.{differs}
use Rattle.rules.specs.Promises.{Examines}
use Rattle.rules.specs.Facts.{Sound}
use Rattle.rules.specs.Faults.{image_rows}
use Rattle.rules.specs.Calls.{image_says}
use Rattle.rules.proofs.Facts.{sound}
use Rattle.rules.specs.Says.{Says, by_table}
use Rattle.rules.specs.declared.Setting.{Setting}
use Rattle.rules.specs.declared.refusal.Refusal.{Refusal}
use Rattle.contents.specs.Settings.{setting_in}
use Rattle.contents.specs.Contents.{pages_in}
use Rattle.book.specs.Book.{page_in}
use Rattle.contents.specs.Orders.{find_order}
use Rattle.book.specs.Orders.{page_rows, read_order}
use Rattle.contents.specs.Accepted.{Accepted}
use Rattle.book.specs.Read.{PageChecks, Cut}
use Rattle.contents.specs.Calls.{span_in, find_says}
use Rattle.contents.specs.declared.Span.{Span}
use Rattle.book.specs.Calls.{page_says, then_read}
use Rattle.contents.specs.Promises.{Finds}
use Rattle.book.specs.Promises.{Pages, Hands}
use Rattle.contents.proofs.Finding.{found, find_is, find_opens, find_counted, find_inside}
use Rattle.rules.specs.declared.refusal.Refusal.TheVariants as Refusal

-- a whole table by its verdict alone
pub table_verdict : {A : Type 0} (t : Table) (r : Says A) → by_table t r ≡ and_then (by_table t (Ok (tt {0}))) r
unfolding by_table
table_verdict t r = ap (λ (l : Table). by_table l r) (sym (append-nil t)) ∙ table_after t [] r

-- ---- the faults and 21 of an image: v is its verdict

module _ (s : Setting) (w : List ℕ) (v : Says (Unit {0})) (q : Examines w v) where
  by_image : by_table (page_rows s w) (Ok (tt {0})) ≡ and_then v (Err Refusal.OtherSetting if differs s w else Ok (tt {0}))
  unfolding by_table image_says
  by_image = table_after (image_rows w) ((Refusal.OtherSetting, differs s w) ∷ []) (Ok (tt {0})) ∙ rw (← q.answer)

  pub page_faulty : (k : Refusal) → v ≡ Err k → PageChecks s w (Err k)
  page_faulty k e = record { says = sym (by_image ∙ rw e) }

  module _ (e : v ≡ Ok tt) where
    pub page_sound : Sound w
    unfolding image_says
    page_sound = sound w (sym (no_fault w) ∙ (table_given (image_rows w) tt tt (sym q.answer ∙ e)).0)

    pub page_21 : differs s w ≡ true → PageChecks s w (Err Refusal.OtherSetting)
    page_21 d = record { says = sym (by_image ∙ rw (e, d)) }

    pub page_fits : differs s w ≡ false → PageChecks s w (Ok tt)
    page_fits d = record { says = sym (by_image ∙ rw (e, d)) }

-- ---- a page is found, and then read

-- the table of reading is that of finding, and the page's rows after it
into : (b : List ℕ) (t : Table) (q : Span) → by_table t (then_read b (Ok q)) ≡ then_read b (by_table t (Ok q))
unfolding by_table
into b [] q = refl
into b (e ∷ es) q = go e.1 (into b es q)
  where
    go : (t : Bool) → by_table es (then_read b (Ok q)) ≡ then_read b (by_table es (Ok q))
        → (Err e.0 if t else by_table es (then_read b (Ok q))) ≡ then_read b (Err e.0 if t else by_table es (Ok q))
    go true z = refl
    go false z = z

pub page_says_lem : (b : List ℕ) (i : ℕ) → page_says b i ≡ then_read b (find_says b (length b) i)
unfolding page_says find_says read_order page_in
page_says_lem b i = table_both (find_order b (length b) i) _ (Ok (span_in b (length b) i)) ∙ into b (find_order b (length b) i) (span_in b (length b) i)

-- the page of accepted contents
pub past_41 : (b : List ℕ) (i : ℕ) → Accepted b (length b) → i < pages_in b
    → page_says b i ≡ by_table (page_rows (setting_in b) (page_in b i)) (Ok (span_in b (length b) i))
unfolding page_in
past_41 b i a h = page_says_lem b i ∙ rw (found b (length b) i a h)

module _ (b : List ℕ) (i : ℕ) (r : Says Span) (f : Finds b (length b) i r) where
  -- 40 and 41 are passed on
  pub page_none : (k : Refusal) → r ≡ Err k → Pages b i (Err k)
  page_none k e = record { answer = sym (page_says_lem b i ∙ rw (← f.answer, e)) }

  module _ (q : Span) (e : r ≡ Ok q) where
    -- the contents are long enough for the setting's words
    pub found_long : 17 ≤ length b
    found_long = (find_opens b (length b) i q (sym f.answer ∙ e)).long

    pub found_inside : q.start + q.len ≤ length b
    found_inside = find_inside b (length b) i q (sym f.answer ∙ e)

-- a part was found; v is its verdict
module _ (book : Bor (List ℕ)) (i : ℕ) (r : Says Span) (f : Finds book.now (length book.now) i r) (q : Span) (e : r ≡ Ok q)
    (s : Setting) (x : s ≡ setting_in book.now) (part : Bor (List ℕ)) (p : Cut book q.start q.len part) (v : Says (Unit {0})) (g : PageChecks s part.now v) where
  abbrev b : List ℕ
  b = book.now

  by_verdict : page_says b i ≡ and_then v (Ok q)
  by_verdict =
      let rows = page_rows (setting_in b) (take q.len (drop q.start b)) in
      let z : v ≡ by_table rows (Ok (tt {0})) = rw (x, p.words) at g.says in
      page_says_lem b i
      ∙ rw (sym f.answer ∙ e) (table_verdict rows (Ok q) ∙ rw (← z))

  pub page_refused : (k : Refusal) → v ≡ Err k → Pages b i (Err k)
  page_refused k y = record { answer = sym (by_verdict ∙ rw y) }

  pub page_part : v ≡ Ok tt → Pages b i (Ok q)
  page_part y = record { answer = sym (by_verdict ∙ rw y) }

-- ---- what a page that is read tells

-- it was found, and its rows do not hold
read_given : (b : List ℕ) (x : Says Span) (q : Span) → then_read b x ≡ Ok q → (x ≡ Ok q) × (none_hold (page_rows (setting_in b) (take q.len (drop q.start b))) ≡ true)
read_given b (Err k) q e = let z : ◌≡◌ {A = ℕ} 0 1 = cc in absurd (omega arith)
read_given b (Ok y) q e =
    let t = table_given (page_rows (setting_in b) (take y.len (drop y.start b))) y q e in
    (ap Ok t.1, rw t.1 at t.0)

module _ (b : List ℕ) (i : ℕ) (q : Span) (e : page_says b i ≡ Ok q) where
  abbrev rows : Table
  rows = page_rows (setting_in b) (take q.len (drop q.start b))

  both : (find_says b (length b) i ≡ Ok q) × (none_hold rows ≡ true)
  both = read_given b (find_says b (length b) i) q (sym (page_says_lem b i) ∙ e)

  pub page_span : span_in b (length b) i ≡ q
  page_span = find_is b (length b) i q both.0

  pub page_opens : Accepted b (length b)
  page_opens = find_opens b (length b) i q both.0

  pub page_counted : i < pages_in b
  page_counted = find_counted b (length b) i q both.0

  pub page_inside : q.start + q.len ≤ length b
  page_inside = find_inside b (length b) i q both.0

  -- the words of the page
  pub page_words : take q.len (drop q.start b) ≡ page_in b i
  unfolding page_in
  page_words = ap (λ (z : Span). take z.len (drop z.start b)) (sym page_span)

  pub page_formed : well_formed (page_in b i) ≡ true
  page_formed = ap well_formed (sym page_words) ∙ rows_formed (take q.len (drop q.start b)) _ both.1

  pub page_same : differs (setting_in b) (page_in b i) ≡ false
  page_same = ap (differs (setting_in b)) (sym page_words) ∙ row_out ((Refusal.OtherSetting, differs (setting_in b) (take q.len (drop q.start b))) ∷ []) 0 (rows_after (take q.len (drop q.start b)) _ both.1)

-- ---- the part that is handed back

module _ (b : List ℕ) (i : ℕ) (r : Says Span) (p : Pages b i r) where
  pub read_inside : (q : Span) → r ≡ Ok q → q.start + q.len ≤ length b
  read_inside q e = page_inside b i q (sym p.answer ∙ e)

module _ (book : Bor (List ℕ)) (i : ℕ) (r : Says Span) (p : Pages book.now i r) (q : Bor (List ℕ)) where
  pub hands_none : (n : Refusal) → r ≡ Err n → Cut book 0 0 q → Hands book i q
  hands_none n e c =
      let z : page_says book.now i ≡ Err n = sym p.answer ∙ e in
      record { words = rw z c.words; place = rw z c.place }

  pub hands_part : (m : Span) → r ≡ Ok m → Cut book m.start m.len q → Hands book i q
  hands_part m e c =
      let z : page_says book.now i ≡ Ok m = sym p.answer ∙ e in
      record { words = rw z c.words; place = rw z c.place }
