-- Where a page lies, by the contents and the book's length: accepted contents as facts, and what `find` says by the tests made so far. Assumes nothing.
use Rattle.std.specs.Prelude.{Ok, Err}
use Prim.Native.Nat.{ℕ, ◌+◌, ◌*◌, ◌-◌, ◌<◌, ◌≤◌}
use native.Mathlib.Omega.{arith}
use mathlib.Core.Path.{◌≡◌, refl, sym, ap, ◌∙◌}
use mathlib.Core.Bool.{Bool, true, false, not, ◌&&◌, true≢false, false≢true}
use Rattle.lists.specs.Choice.{◌if◌else◌}
use mathlib.Core.List.{List, [], ◌∷◌}
use lib.Dec.{ltb, eqb}
use lib.ListN.{length, get_or}
use borrow.Author.Tests.{eqb-true, eq-eqb, lt-ltb, le-ltb, ltb-true, ltb-false, leb-false, not-true, not-false}
use Rattle.lists.specs.Below.{all_below}
use Rattle.lists.specs.Lists.{all}
use Rattle.rules.specs.Tables.{Table, none_hold}
use Rattle.lists.proofs.Tests.{ordered, less, more, and_left, and_right}
use Rattle.lists.proofs.Lists.{all_append}
use Rattle.lists.proofs.Below.{all_at, some_never}
use Rattle.rules.proofs.Tables.{and_then, row_out, table_after, table_gives, table_both, table_given}
use Rattle.rules.specs.Image.{word}
use Rattle.rules.specs.Says.{Says, by_table}
use Rattle.rules.specs.declared.refusal.Refusal.{Refusal}
use Rattle.contents.specs.Contents.{front, pages_in, start_in, end_in}
use Rattle.contents.specs.Orders.{layout_rows, start_rows, contents_order, rises, outside, find_order}
use Rattle.contents.specs.Accepted.{Accepted}
use Rattle.contents.specs.Read.{Word, Pair, ContentsFit, Ends}
use Rattle.contents.specs.Calls.{span_in, find_says}
use Rattle.contents.specs.declared.Span.{Span}
use Rattle.contents.specs.Promises.{Finds}
use Rattle.rules.specs.declared.refusal.Refusal.TheVariants as Refusal

-- ---- accepted contents: c is the front of a book of n words

module _ (c : List ℕ) (n : ℕ) (h : none_hold (contents_order c n) ≡ true) where
  -- the k-th row of the table of 40
  row : (k : ℕ) → (get_or (contents_order c n) k (Refusal.Buffer, false)).1 ≡ false
  row k = row_out (contents_order c n) k h

  all_rise : all_below (pages_in c - 1) (rises c) ≡ true
  unfolding contents_order layout_rows start_rows
  all_rise = not-false _ (row 8)

  -- a row of two tests: where the first holds, the second does not
  second : (t u : Bool) → (t && u) ≡ false → t ≡ true → u ≡ false
  second true u z e = z
  second false u z e = absurd (false≢true e)

  pub accepted : Accepted c n
  unfolding contents_order layout_rows start_rows
  accepted = record {
    passed = h;
    long = ltb-false (length c) 17 (row 0);
    one = eqb-true _ _ (not-false _ (row 1));
    yes_no = ltb-false 1 (word c 4) (row 2);
    lead_on = row 3;
    ticks_on = row 4;
    setting = eqb-true _ _ (not-false _ (row 5));
    contents_in = ltb-false (length c) (front (pages_in c)) (row 6);
    after_contents = λ g. eqb-true _ _ (not-false _ (second _ _ (row 7) (lt-ltb 0 (pages_in c) g)));
    none_left = λ z. ltb-false 17 n (second _ _ (row 10) (eq-eqb (pages_in c) 0 z));
    rising = λ i g. ltb-true _ _ (all_at (rises c) (pages_in c - 1) i (omega arith) all_rise);
    starts_in = λ i g. leb-false _ _ (some_never (outside c n) (pages_in c) i g (row 9));
  }

module _ (c : List ℕ) (n : ℕ) (r : Says (Unit {0})) (q : ContentsFit c n r) (h : r ≡ Ok tt) where
  pub opened : Accepted c n
  opened = accepted c n (table_given (contents_order c n) tt tt (sym q.says ∙ h)).0

  -- word 16 is there
  pub counted : 16 < length c
  counted = omega (arith, opened.long)

pub page_there : (c : List ℕ) (i p : ℕ) → Word c 16 p → i < p → i < pages_in c
page_there c i p w h = omega (arith, w.value)

-- ---- where a page ends

module _ (c : List ℕ) (n : ℕ) (a : Accepted c n) (i : ℕ) (h : i < pages_in c) where
  -- whichever it is
  pub ends_is : Ends c n i (end_in c n i)
  ends_is = elim (ordered (1 + i) (pages_in c)) [
    | less l t ↦ rw t (record { value = rw t; above = a.rising i l; inside = omega (arith, a.starts_in (1 + i) l) })
    | more l t ↦ rw t (record { value = rw t; above = a.starts_in i h; inside = omega arith })
  ]

  module _ (p : ℕ) (w : Word c 16 p) where
    pub ends_next : 1 + i < p → (x : ℕ) → Pair c (17 + 2 * (1 + i)) x → Ends c n i x
    ends_next g x q =
        let l : 1 + i < pages_in c = omega (arith, w.value) in
        let e : end_in c n i ≡ start_in c (1 + i) = rw (lt-ltb (1 + i) (pages_in c) l) in
        record { value = q.value ∙ sym e; above = omega (arith, q.value, a.rising i l); inside = omega (arith, q.value, a.starts_in (1 + i) l) }

    pub ends_last : p ≤ 1 + i → Ends c n i n
    ends_last g =
        let l : pages_in c ≤ 1 + i = omega (arith, w.value) in
        record { value = rw (le-ltb (1 + i) (pages_in c) l); above = a.starts_in i h; inside = omega arith }

-- ---- what is said

module _ (c : List ℕ) (n i : ℕ) where
  -- 40, then 41
  pub find_parts : find_says c n i ≡ by_table (contents_order c n) (by_table ((Refusal.Page, not (ltb i (pages_in c))) ∷ []) (Ok (span_in c n i)))
  unfolding find_says find_order
  find_parts = table_both (contents_order c n) _ (Ok (span_in c n i))

  pub find_40 : (r : Says (Unit {0})) → ContentsFit c n r → (k : Refusal) → r ≡ Err k → Finds c n i (Err k)
  unfolding find_says find_order
  find_40 r q k h =
      let u : Table = (Refusal.Page, not (ltb i (pages_in c))) ∷ [] in
      record { answer = sym (table_after (contents_order c n) u (Ok (span_in c n i)) ∙ ap (λ (y : Says (Unit {0})). and_then y (by_table u (Ok (span_in c n i)))) (sym q.says ∙ h)) }

  module _ (a : Accepted c n) where
    past_40 : find_says c n i ≡ by_table ((Refusal.Page, not (ltb i (pages_in c))) ∷ []) (Ok (span_in c n i))
    past_40 = find_parts ∙ table_gives (contents_order c n) _ a.passed

    pub find_41 : (p : ℕ) → Word c 16 p → p ≤ i → Finds c n i (Err Refusal.Page)
    unfolding by_table
    find_41 p w h = record { answer = sym (past_40 ∙ rw (le-ltb i (pages_in c) (omega (arith, w.value)))) }

    pub found : i < pages_in c → find_says c n i ≡ Ok (span_in c n i)
    unfolding by_table
    found h = past_40 ∙ rw (lt-ltb i (pages_in c) h)

    pub find_part : i < pages_in c → (start end : ℕ) → Pair c (17 + 2 * i) start → Ends c n i end → Finds c n i (Ok (record { start = start; len = end - start }))
    find_part h start end q z = record { answer = rw (q.value, z.value) (sym (found h)) }

-- ---- what a page that is found tells

module _ (c : List ℕ) (n i : ℕ) (q : Span) (e : find_says c n i ≡ Ok q) where
  no_row : none_hold (find_order c n i) ≡ true
  unfolding find_says
  no_row = (table_given (find_order c n i) (span_in c n i) q e).0

  pub find_is : span_in c n i ≡ q
  unfolding find_says
  find_is = (table_given (find_order c n i) (span_in c n i) q e).1

  both_halves : (none_hold (contents_order c n) && none_hold ((Refusal.Page, not (ltb i (pages_in c))) ∷ [])) ≡ true
  unfolding find_order
  both_halves = sym (all_append (λ (z : Refusal × Bool). not z.1) (contents_order c n) _) ∙ no_row

  pub find_opens : Accepted c n
  find_opens = accepted c n (and_left _ _ both_halves)

  pub find_counted : i < pages_in c
  find_counted = ltb-true i (pages_in c) (not-false _ (row_out ((Refusal.Page, not (ltb i (pages_in c))) ∷ []) 0 (and_right (none_hold (contents_order c n)) _ both_halves)))

  pub find_inside : q.start + q.len ≤ n
  find_inside =
      let z = ends_is c n find_opens i find_counted in
      omega (arith, ap (λ (s : Span). s.start) find_is, ap (λ (s : Span). s.len) find_is, z.above, z.inside)

-- the same of the answer
module _ (c : List ℕ) (n i : ℕ) (r : Says Span) (f : Finds c n i r) (q : Span) (e : r ≡ Ok q) where
  pub part_given : find_says c n i ≡ Ok q
  part_given = sym f.answer ∙ e

  pub part_opens : Accepted c n
  part_opens = find_opens c n i q part_given

  -- the contents are long enough for the setting's words
  pub part_long : 17 ≤ length c
  part_long = part_opens.long

  pub part_inside : q.start + q.len ≤ n
  part_inside = find_inside c n i q part_given
