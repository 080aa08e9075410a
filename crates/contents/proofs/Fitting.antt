-- The tests of a book's contents, row by row of the table of 40. Assumes nothing.
use Rattle.std.specs.Prelude.{Ok, Err, is_ok, ⊤}
use Prim.Native.Nat.{ℕ, zero, suc, ◌+◌, ◌*◌, ◌-◌, ◌<◌, ◌≤◌}
use native.Mathlib.Omega.{arith}
use mathlib.Core.Path.{◌≡◌, refl, sym, ap, ◌∙◌}
use mathlib.Core.Bool.{Bool, true, false, not, ◌&&◌, ◌||◌, true≢false, and-false}
use mathlib.Core.List.{List, [], ◌∷◌}
use lib.Dec.{leb, ltb, eqb}
use lib.ListN.{length, get_or}
use borrow.Author.Tests.{eq-eqb, ne_eqb, lt-ltb, le-ltb, le-leb, lt-leb, ltb-true, not-true, not-false}
use Rattle.lists.specs.Below.{all_below, some_below}
use Rattle.lists.specs.Lists.{all}
use Rattle.lists.specs.Choice.{◌if◌else◌}
use Rattle.rules.specs.Tables.{Table, none_hold}
use Rattle.lists.proofs.Tests.{ordered, less, more}
use Rattle.lists.proofs.Below.{all_none, all_next, all_at, some_found, some_false}
use Rattle.lists.proofs.Lists.{all_append}
use Rattle.rules.specs.Image.{word}
use Rattle.rules.specs.Promises.{Validates}
use Rattle.rules.specs.Setting.{setting_check}
use Rattle.rules.specs.declared.Setting.{Setting}
use Rattle.rules.specs.declared.refusal.Refusal.{Refusal}
use Rattle.rules.proofs.SettingParts.{accepted_says, says_accepted}
use Rattle.rules.proofs.Tables.{table_gives}
use Rattle.contents.specs.Settings.{four_at, limit_off, setting_in}
use Rattle.contents.specs.Contents.{front, pages_in, start_in}
use Rattle.contents.specs.Orders.{layout_rows, rises, outside, start_rows, contents_order}
use Rattle.contents.specs.Read.{Word, Pair, OffLimit, SettingFits, LayoutFits, Rising, StartsFit, ContentsFit}
use Rattle.rules.specs.Says.{Says, by_table}
use Rattle.rules.specs.declared.refusal.Refusal.TheVariants as Refusal

refused_none : {k : Refusal} → ◌≡◌ {A = Says (Unit {0})} (Err k) (Ok tt) → ⊥
refused_none e = let z : ◌≡◌ {A = ℕ} 0 1 = cc in omega arith

-- each row refuses by k
each_by : Refusal → Table → Type 0
each_by k [] = ⊤
each_by k (e ∷ es) = (e.0 ≡ k) × each_by k es

-- a table of one refusal refuses by it
by_one : {A : Type 0} (k : Refusal) (t : Table) (r : Says A) → each_by k t → none_hold t ≡ false → by_table t r ≡ Err k
unfolding by_table all each_by
by_one k [] r n h = absurd (true≢false h)
by_one k (e ∷ es) r n h = go e.0 e.1 n.0 (λ q. by_one k es r n.1 q) h
  where
    go : (m : Refusal) (t : Bool) → m ≡ k → (none_hold es ≡ false → by_table es r ≡ Err k) → (not t && none_hold es) ≡ false → (Err m if t else by_table es r) ≡ Err k
    go m true z f q = ap Err z
    go m false z f q = f q

-- a row that holds
pub row_in : (t : Table) (k : ℕ) → (get_or t k (Refusal.Buffer, false)).1 ≡ true → none_hold t ≡ false
unfolding all
row_in [] k h = sym h
row_in (e ∷ es) zero h = rw h
row_in (e ∷ es) (suc k) h = go e.1 (row_in es k h)
  where
    go : (t : Bool) → none_hold es ≡ false → (not t && none_hold es) ≡ false
    go true q = refl
    go false q = q

twice : (x : Bool) → x ≡ (not (not x) && true)
twice true = refl
twice false = refl

twice_not : (x : Bool) → not x ≡ (not x && (not false && true))
twice_not true = refl
twice_not false = refl

-- ---- words 0 to 15

pub limit_off_is : (b : List ℕ) (k flag n : ℕ) → Word b k flag → n ≡ four_at b (1 + k) → OffLimit b k (ltb 1 flag || (eqb flag 0 && not (eqb n 0)))
limit_off_is b k flag n w e = record { off = rw (w.value, e) }

-- an answer on a setting is a verdict on it
pub setting_fits_is : (b : List ℕ) (s : Setting) (v : Says (Unit {0})) → s ≡ setting_in b → Validates s v → SettingFits b (is_ok v)
setting_fits_is b s (Ok u) e q = record { fits = sym (eq-eqb _ 0 (rw e at (says_accepted s (sym q.answer)))) }
setting_fits_is b s (Err k) e q = record { fits = sym (ne_eqb _ 0 (rw e at (λ (z : setting_check s ≡ 0). refused_none (q.answer ∙ accepted_says s z)))) }

module _ (b : List ℕ) where
  pub layout_first : (n : ℕ) → Word b 0 n → (n ≡ 1 → ⊥) → LayoutFits b false
  unfolding layout_rows
  layout_first n w h = record { fits = sym (row_in (layout_rows b) 0 (ap not (ne_eqb (word b 0) 1 (rw w.value at h)))) }

  pub layout_last : (n : ℕ) → Word b 4 n → 1 < n → LayoutFits b false
  unfolding layout_rows
  layout_last n w h = record { fits = sym (row_in (layout_rows b) 1 (lt-ltb 1 (word b 4) (rw w.value at h))) }

  pub layout_lead : (t : Bool) → OffLimit b 5 t → t ≡ true → LayoutFits b false
  unfolding layout_rows
  layout_lead t w h = record { fits = sym (row_in (layout_rows b) 2 (sym w.off ∙ h)) }

  pub layout_ticks : (t : Bool) → OffLimit b 11 t → t ≡ true → LayoutFits b false
  unfolding layout_rows
  layout_ticks t w h = record { fits = sym (row_in (layout_rows b) 3 (sym w.off ∙ h)) }

  pub layout_all : (n m : ℕ) (t u r : Bool) → Word b 0 n → n ≡ 1 → Word b 4 m → m ≤ 1 → OffLimit b 5 t → t ≡ false → OffLimit b 11 u → u ≡ false → SettingFits b r
      → LayoutFits b r
  unfolding layout_rows all
  layout_all n m t u r w₀ h₀ w₄ h₄ w₅ h₅ w₁₁ h₁₁ w = record {
    fits =
        let e₀ : eqb (word b 0) 1 ≡ true = eq-eqb (word b 0) 1 (sym w₀.value ∙ h₀) in
        let e₄ : ltb 1 (word b 4) ≡ false = le-ltb 1 (word b 4) (rw w₄.value at h₄) in
        let e₅ : limit_off b 5 ≡ false = sym w₅.off ∙ h₅ in
        let e₁₁ : limit_off b 11 ≡ false = sym w₁₁.off ∙ h₁₁ in
        rw (e₀, e₄, e₅, e₁₁, ← w.fits) (twice r);
  }

-- ---- the starts

module _ (b : List ℕ) (n : ℕ) where
  pub rise_none : Rising b n 0 true
  rise_none = record { here = omega arith; rise = sym (all_none (rises b)) }

  pub rise_next : (i x y : ℕ) (t : Bool) → Rising b n i t → Pair b (17 + 2 * i) x → Pair b (17 + 2 * (1 + i)) y → i < n → Rising b n (i + 1) (t && ltb x y)
  rise_next i x y t q p₁ p₂ h = record { here = omega arith; rise = rw (q.rise, p₁.value, p₂.value) (sym (all_next (rises b) i)) }

  pub rise_all : (i : ℕ) (t : Bool) → Rising b n i t → n ≤ i → Rising b n n t
  rise_all i t q h = let e : i ≡ n = omega (arith, q.here) in rw e at q

module _ (b : List ℕ) (n : ℕ) (up : all_below n (rises b) ≡ true) where
  step_up : (j : ℕ) → suc j ≤ n → start_in b j < start_in b (suc j)
  step_up j g =
      let step : start_in b j < start_in b (1 + j) = ltb-true _ _ (all_at (rises b) n j g up) in
      let e : 1 + j ≡ suc j = omega arith in
      rw e at step

  -- a start is not above a later one
  pub rising_to : (i j : ℕ) → i ≤ j → j ≤ n → start_in b i ≤ start_in b j
  rising_to i zero h g = let e : i ≡ 0 = omega arith in rw e (omega arith)
  rising_to i (suc j) h g = elim (ordered j i) [
    | less l t ↦ let e : i ≡ suc j = omega arith in rw e (omega arith)
    | more l t ↦ omega (arith, rising_to i j l (omega arith), step_up j g)
  ]

-- c is the front of a book of n words
module _ (c : List ℕ) (n p : ℕ) (w : Word c 16 p) where
  pub starts_cut : length c < 17 + 2 * p → StartsFit c n false
  unfolding start_rows
  starts_cut h = record { fits = sym (row_in (start_rows c n) 0 (lt-ltb (length c) (front (pages_in c)) (rw w.value at h))) }

  -- a book of no pages
  pub starts_none : 17 + 2 * p ≤ length c → p ≡ 0 → StartsFit c n (leb n 17)
  unfolding start_rows all all_below some_below
  starts_none h z = record {
    fits =
        let e : pages_in c ≡ 0 = sym w.value ∙ z in
        rw (e, le-ltb (length c) 17 (omega arith)) (elim (ordered 17 n) [
          | less l t ↦ rw (t, lt-leb n 17 l)
          | more l t ↦ rw (t, le-leb n 17 l)
        ]);
  }

  module _ (some : p ≡ 0 → ⊥) where
    pub starts_late : (x : ℕ) → Pair c 17 x → (x ≡ 17 + 2 * p → ⊥) → StartsFit c n false
    unfolding start_rows
    starts_late x q h = record {
      fits =
          let one : ltb 0 (pages_in c) ≡ true = lt-ltb 0 (pages_in c) (omega (arith, w.value)) in
          let off : eqb (start_in c 0) (front (pages_in c)) ≡ false = ne_eqb _ _ (λ e. h (q.value ∙ e ∙ ap front (sym w.value))) in
          sym (row_in (start_rows c n) 1 (rw (one, off)));
    }

    pub starts_fall : (t : Bool) → Rising c (p - 1) (p - 1) t → not t ≡ true → StartsFit c n false
    unfolding start_rows
    starts_fall t q h = record { fits = sym (row_in (start_rows c n) 2 (rw (← w.value, ← q.rise) h)) }

    -- of starts that rise the last is the highest
    last_inside : all_below (p - 1) (rises c) ≡ true → (y : ℕ) → y ≡ start_in c (p - 1) → ltb y n ≡ not (some_below p (outside c n))
    last_inside up y e = elim (ordered y n) [
      | less l t ↦ rw (t, some_false (outside c n) p (λ i h. lt-leb n (start_in c i) (omega (arith, rising_to c (p - 1) up i (p - 1) (omega arith) (omega arith)))))
      | more l t ↦ rw (t, some_found (outside c n) p (p - 1) (omega arith) (le-leb n (start_in c (p - 1)) (omega arith)))
    ]

    pub starts_last : 17 + 2 * p ≤ length c → (x y : ℕ) (t : Bool) → Pair c 17 x → x ≡ 17 + 2 * p → Rising c (p - 1) (p - 1) t → not t ≡ false → Pair c (17 + 2 * (p - 1)) y
        → StartsFit c n (ltb y n)
    unfolding start_rows all
    starts_last h x y t q z r u v = record {
      fits =
          let up : all_below (p - 1) (rises c) ≡ true = sym r.rise ∙ not-false t u in
          let one : ltb 0 p ≡ true = lt-ltb 0 p (omega arith) in
          let none : eqb p 0 ≡ false = ne_eqb p 0 some in
          let right : eqb (start_in c 0) (front p) ≡ true = eq-eqb _ _ (sym q.value ∙ z) in
          rw (← w.value, le-ltb (length c) (front p) h, one, right, up, none) (last_inside up y v.value ∙ twice_not (some_below p (outside c n)));
    }

-- ---- the whole table

module _ (c : List ℕ) (n : ℕ) where
  refused : none_hold (contents_order c n) ≡ false → ContentsFit c n (Err Refusal.Contents)
  unfolding contents_order layout_rows start_rows each_by
  refused h = record { says = sym (by_one Refusal.Contents (contents_order c n) (Ok tt) (refl, (refl, (refl, (refl, (refl, (refl, (refl, (refl, (refl, (refl, (refl, tt))))))))))) h) }

  pub contents_cut : length c < 17 → ContentsFit c n (Err Refusal.Contents)
  unfolding contents_order
  contents_cut h = refused (row_in (contents_order c n) 0 (lt-ltb (length c) 17 h))

  -- the rest of the table, where the front is there
  parts : 17 ≤ length c → (t r : Bool) → LayoutFits c t → StartsFit c n r → none_hold (contents_order c n) ≡ (t && r)
  unfolding contents_order all
  parts h t r q v = rw (le-ltb (length c) 17 h, all_append (λ (e : Refusal × Bool). not e.1) (layout_rows c) (start_rows c n), ← q.fits, ← v.fits)

  pub contents_off : 17 ≤ length c → (t : Bool) → LayoutFits c t → t ≡ false → ContentsFit c n (Err Refusal.Contents)
  contents_off h t q u = refused (parts h t _ q (record { fits = refl }) ∙ rw u)

  pub contents_late : 17 ≤ length c → (t r : Bool) → LayoutFits c t → StartsFit c n r → r ≡ false → ContentsFit c n (Err Refusal.Contents)
  contents_late h t r q v u = refused (parts h t r q v ∙ rw u (and-false t))

  pub contents_on : 17 ≤ length c → (t r : Bool) → LayoutFits c t → t ≡ true → StartsFit c n r → r ≡ true → ContentsFit c n (Ok tt)
  contents_on h t r q u v w = record { says = sym (table_gives (contents_order c n) (Ok tt) (parts h t r q v ∙ rw (u, w))) }
