-- Finding a page looks at the contents alone. Assumes nothing.
use Rattle.std.specs.Prelude.{Ok}
use Prim.Native.Nat.{ℕ, ◌+◌, ◌*◌, ◌-◌, ◌<◌, ◌≤◌}
use native.Mathlib.Omega.{arith}
use mathlib.Core.Path.{◌≡◌, refl, sym, ap, ap₂, ◌∙◌}
use mathlib.Core.Bool.{Bool, not, ◌&&◌}
use mathlib.Core.List.{List, [], ◌∷◌}
use lib.Dec.{leb, ltb, eqb}
use lib.ListN.{length, take}
use lib.Seq.{get_or-take, take_all, length-take-le}
use borrow.Author.Tests.{le-ltb}
use Rattle.lists.specs.Below.{all_below, some_below}
use Rattle.rules.specs.Tables.{Table}
use Rattle.lists.proofs.Below.{all_ext, some_ext}
use Rattle.lists.proofs.Tests.{ordered, less, more}
use Rattle.rules.specs.Image.{word}
use Rattle.rules.specs.Says.{Says, by_table}
use Rattle.rules.specs.Setting.{setting_check}
use Rattle.rules.specs.declared.Setting.{Setting}
use Rattle.rules.specs.declared.refusal.Refusal.{Refusal}
use Rattle.contents.specs.Settings.{limit_at, limit_off, setting_in}
use Rattle.contents.specs.Contents.{front, pages_in, start_in, end_in}
use Rattle.contents.specs.Orders.{layout_rows, start_rows, contents_order, rises, outside}
use Rattle.contents.specs.Calls.{span_in, find_says}
use Rattle.contents.specs.declared.Span.{Span}
use Rattle.contents.proofs.Finding.{find_parts}
use Rattle.rules.specs.declared.refusal.Refusal.TheVariants as Refusal

row_cons : {k : Refusal} {t u : Bool} {x y : Table} → t ≡ u → x ≡ y → (k, t) ∷ x ≡ (k, u) ∷ y
row_cons {k} e q = ap₂ (λ (t : Bool) (x : Table). (k, t) ∷ x) e q

span_both : (x y u v : ℕ) → x ≡ u → y ≡ v → ◌≡◌ {A = Says Span} (Ok (record { start = x; len = y - x })) (Ok (record { start = u; len = v - u }))
span_both x y u v e q = rw (e, q)

-- b and c have the same contents, and are cut short together: fronts of books of n words
module _ (b c : List ℕ) (n : ℕ) (short : ltb (length b) 17 ≡ ltb (length c) 17) (cut : ltb (length b) (front (pages_in b)) ≡ ltb (length c) (front (pages_in b)))
    (contents : (k : ℕ) → k < front (pages_in b) → word b k ≡ word c k) where
  abbrev p : ℕ
  p = pages_in b

  -- one of the first 17 words
  early : (k : ℕ) → k < 17 → word b k ≡ word c k
  early k h = contents k (omega arith)

  count : p ≡ pages_in c
  count = early 16 (omega arith)

  limit_same : (k : ℕ) → k + 4 < 17 → limit_at b k ≡ limit_at c k
  limit_same k h =
      rw (early k (omega arith), early (1 + k) (omega arith), early (1 + (1 + k)) (omega arith), early (2 + (1 + k)) (omega arith), early (1 + (2 + (1 + k))) (omega arith))

  off_same : (k : ℕ) → k + 4 < 17 → limit_off b k ≡ limit_off c k
  off_same k h =
      rw (early k (omega arith), early (1 + k) (omega arith), early (1 + (1 + k)) (omega arith), early (2 + (1 + k)) (omega arith), early (1 + (2 + (1 + k))) (omega arith))

  pub setting_same : setting_in b ≡ setting_in c
  unfolding setting_in
  setting_same =
      rw (limit_same 5 (omega arith), limit_same 11 (omega arith), early 1 (omega arith), early 2 (omega arith), early 3 (omega arith), early 4 (omega arith), early 10 (omega arith))

  start_same : (i : ℕ) → i < p → start_in b i ≡ start_in c i
  start_same i h = rw (contents (17 + 2 * i) (omega arith), contents (1 + (17 + 2 * i)) (omega arith))

  end_same : (i : ℕ) → end_in b n i ≡ end_in c n i
  end_same i = elim (ordered (1 + i) p) [
    | less l t ↦ rw (← count, t) (start_same (1 + i) l)
    | more l t ↦ rw (← count, t)
  ]

  first_same : (ltb 0 p && not (eqb (start_in b 0) (front p))) ≡ (ltb 0 (pages_in c) && not (eqb (start_in c 0) (front (pages_in c))))
  first_same = rw (← count) (elim (ordered 0 p) [ less l t ↦ rw (start_same 0 l) | more l t ↦ rw t ])

  rise_same : all_below (p - 1) (rises b) ≡ all_below (pages_in c - 1) (rises c)
  rise_same = rw (← count) (all_ext (p - 1) (rises b) (rises c) (λ i h. ap₂ ltb (start_same i (omega arith)) (start_same (1 + i) (omega arith))))

  out_same : some_below p (outside b n) ≡ some_below (pages_in c) (outside c n)
  out_same = rw (← count) (some_ext p (outside b n) (outside c n) (λ i h. ap (leb n) (start_same i h)))

  contents_same : contents_order b n ≡ contents_order c n
  unfolding contents_order layout_rows start_rows
  contents_same =
      row_cons short
      (row_cons (ap (λ (m : ℕ). not (eqb m 1)) (early 0 (omega arith)))
      (row_cons (ap (ltb 1) (early 4 (omega arith)))
      (row_cons (off_same 5 (omega arith))
      (row_cons (off_same 11 (omega arith))
      (row_cons (ap (λ (s : Setting). not (eqb (setting_check s) 0)) setting_same)
      (row_cons (cut ∙ ap (λ (m : ℕ). ltb (length c) (front m)) count)
      (row_cons first_same
      (row_cons (ap not rise_same)
      (row_cons out_same
      (row_cons (ap (λ (m : ℕ). eqb m 0 && ltb 17 n) count)
      refl))))))))))

  module _ (i : ℕ) where
    span_same : i < p → ◌≡◌ {A = Says Span} (Ok (span_in b n i)) (Ok (span_in c n i))
    span_same l = span_both _ _ _ _ (start_same i l) (end_same i)

    last_same : (r q : Says Span) → (i < p → r ≡ q) → by_table ((Refusal.Page, not (ltb i (pages_in b))) ∷ []) r ≡ by_table ((Refusal.Page, not (ltb i (pages_in c))) ∷ []) q
    unfolding by_table
    last_same r q e = rw (← count) (elim (ordered i p) [ less l t ↦ rw (e l) | more l t ↦ rw t ])

    pub find_same : find_says b n i ≡ find_says c n i
    find_same = find_parts b n i ∙ ap₂ (λ (t : Table) (r : Says Span). by_table t r) contents_same (last_same _ _ span_same) ∙ sym (find_parts c n i)

-- the first k words of a book, the contents among them
module _ (b : List ℕ) (k : ℕ) (h : front (pages_in b) ≤ k) where
  cut_same : (m : ℕ) → m ≤ k → k < length b → ltb (length b) m ≡ ltb (length (take k b)) m
  cut_same m g l =
      let e : length (take k b) ≡ k = length-take-le k b (omega arith) in
      rw (le-ltb (length b) m (omega arith), e, le-ltb k m g)

  word_same : (j : ℕ) → j < front (pages_in b) → word b j ≡ word (take k b) j
  word_same j g = sym (get_or-take k b j 0 (omega arith))

  pub front_finds : (i : ℕ) → find_says (take k b) (length b) i ≡ find_says b (length b) i
  front_finds i = elim (ordered k (length b)) [
    | less l t ↦ sym (find_same b (take k b) (length b) (cut_same 17 (omega arith) l) (cut_same (front (pages_in b)) h l) word_same i)
    | more l t ↦ ap (λ (c : List ℕ). find_says c (length b) i) (take_all k b l)
  ]

  pub front_setting : setting_in (take k b) ≡ setting_in b
  front_setting = elim (ordered k (length b)) [
    | less l t ↦ sym (setting_same b (take k b) (length b) (cut_same 17 (omega arith) l) (cut_same (front (pages_in b)) h l) word_same)
    | more l t ↦ ap setting_in (take_all k b l)
  ]
