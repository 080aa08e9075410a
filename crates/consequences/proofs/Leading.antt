-- Who leads: of two that live the longer by the lead or more, from whom the definition's leads are read. Assumes nothing.
use Rattle.std.specs.Prelude.{Option, Some, None}
use Prim.Native.Nat.{ℕ, zero, suc, ◌+◌, ◌-◌, ◌<◌, ◌≤◌}
use native.Mathlib.Nat.{le_refl, add-zero, add-suc}
use native.Mathlib.Omega.{arith}
use mathlib.Core.Path.{◌≡◌, refl, sym, ap, ◌∙◌}
use mathlib.Core.Bool.{Bool, true, false, not, ◌&&◌, and-false}
use mathlib.Core.List.{List}
use lib.Dec.{eqb, ltb, leb}
use lib.ListN.{get_or}
use borrow.Author.Tests.{lt-ltb, le-ltb, ltb-true, ne_eqb}
use Rattle.lists.specs.Choice.{bit}
use Rattle.lists.specs.Below.{some_below, count_below}
use Rattle.lists.proofs.Tests.{compared, same, other, ordered, less, more, and_left, and_right}
use Rattle.lists.proofs.Below.{some_found, some_false, count_none, count_next}
use Rattle.consequences.specs.declared.after.After.{After}
use Rattle.consequences.specs.After.{gone, living}
use Rattle.consequences.specs.Leads.{Living, NoneLiving, FirstLiving, TwoLive, Longer, leads_in, Leader, Leads}

-- ---- counts

bit_zero : (b : Bool) → bit b ≡ 0 → b ≡ false
bit_zero true e = absurd (omega arith)
bit_zero false e = refl

bit_one : (b : Bool) → b ≡ true → bit b ≡ 1
bit_one b e = rw e

module _ (p : ℕ → Bool) where
  count_up : (a k : ℕ) → count_below a p ≤ count_below (a + k) p
  unfolding count_below
  count_up a zero = rw add-zero (le_refl _)
  count_up a (suc k) = let r = count_up a k in rw add-suc (omega arith)

  count_mono : (a b : ℕ) → a ≤ b → count_below a p ≤ count_below b p
  count_mono a b h = let e : a + (b - a) ≡ b = omega arith in rw e at (count_up a (b - a))

  -- none passes between two equal counts
  none_between : (a b x : ℕ) → a ≤ x → x < b → count_below b p ≡ count_below a p → p x ≡ false
  none_between a b x l u e = bit_zero (p x) (omega (arith, count_mono a x l, count_next p x, count_mono (x + 1) b (omega arith)))

-- ---- the search for one that lives

module _ (all : List After) (n from : ℕ) where
  module _ (i : ℕ) (q : NoneLiving all n from i) where
    pub living_next : i < n → living all i ≡ false → NoneLiving all n from (i + 1)
    living_next l e = record { on = omega (arith, q.on); end = omega arith; none = let z : bit (living all i) ≡ 0 = rw e in omega (arith, count_next (living all) i, q.none) }

-- ---- the two that live

module _ (all : List After) (n alive : ℕ) (c : Living all n alive) (two : alive ≡ 2) where
  abbrev count : ℕ → ℕ
  count k = count_below k (living all)

  -- one is found, and then another
  pub some_first : NoneLiving all n 0 n → ⊥
  some_first p = omega (arith, c.count, p.none, count_none (living all))

  module _ (i : ℕ) (p : FirstLiving all n 0 i) where
    one_so_far : count (i + 1) ≡ 1
    one_so_far = omega (arith, count_next (living all) i, bit_one (living all i) p.lives, p.past.none, count_none (living all))

    pub next_in_lem : i + 1 ≤ n
    next_in_lem = omega (arith, p.one)

    pub some_second : NoneLiving all n (i + 1) n → ⊥
    some_second q = omega (arith, c.count, q.none, one_so_far)

    module _ (j : ℕ) (q : FirstLiving all n (i + 1) j) where
      all_so_far : count n ≡ count (j + 1)
      all_so_far = omega (arith, c.count, count_next (living all) j, bit_one (living all j) q.lives, q.past.none, one_so_far)

      others_out : (x : ℕ) → x < n → (x ≡ i → ⊥) → (x ≡ j → ⊥) → living all x ≡ false
      others_out x l a b = elim (ordered x i) [
        | less k t ↦ none_between (living all) 0 i x (omega arith) k p.past.none
        | more k t ↦ elim (ordered x j) [
          | less m t ↦ none_between (living all) (i + 1) j x (omega arith) m q.past.none
          | more m t ↦ none_between (living all) (j + 1) n x (omega arith) l all_so_far
        ]
      ]

      pub two_live : TwoLive all n i j
      two_live = record {
        few = c.few;
        one = p.one;
        two = q.one;
        apart = λ e. omega (arith, q.past.on);
        first = p.lives;
        second = q.lives;
        others = others_out;
      }

-- ---- who leads

-- nobody
nobody_leads : (all : List After) (n alive : ℕ) (lead : Option ℕ) → ((x y : ℕ) → x < n → y < n → leads_in all alive lead x y ≡ false) → Leader all n alive lead None
nobody_leads all n alive lead h = record {
  wins = λ x l. some_false (leads_in all alive lead x) n (λ y m. h x y l m);
  loses = λ x l. some_false (λ y. leads_in all alive lead y x) n (λ y m. h y x m l) ∙ sym (and-false (living all x && true));
  ends = some_false (λ x. some_below n (leads_in all alive lead x)) n (λ x l. some_false (leads_in all alive lead x) n (λ y m. h x y l m));
}

swap_live : (all : List After) (n i j : ℕ) → TwoLive all n i j → TwoLive all n j i
swap_live all n i j t = record {
  few = t.few;
  one = t.two;
  two = t.one;
  apart = λ e. t.apart (sym e);
  first = t.second;
  second = t.first;
  others = λ x l a b. t.others x l b a;
}

module _ (all : List After) (k : ℕ) where
  abbrev lead : ℕ → ℕ → Bool
  lead = leads_in all 2 (Some k)

  lead_first : (x y : ℕ) → living all x ≡ false → lead x y ≡ false
  lead_first x y e = rw e

  lead_second : (x y : ℕ) → living all y ≡ false → lead x y ≡ false
  lead_second x y e = rw (e, and-false (living all x))

  lead_shorter : (x y : ℕ) → (get_or all x gone).keep ≤ (get_or all y gone).keep → lead x y ≡ false
  lead_shorter x y h = rw (le-ltb (get_or all y gone).keep (get_or all x gone).keep h, and-false (living all x && living all y))

module _ (all : List After) (n i j : ℕ) (t : TwoLive all n i j) (k : ℕ) where
  lead_is : (r : Bool) → Longer (get_or all i gone) (get_or all j gone) k r → lead all k i j ≡ r
  lead_is r q = rw (t.first, t.second) (sym q.is)

  -- only the first leads the second, where the second does not lead the first
  lead_other : lead all k j i ≡ false → (x y : ℕ) → x < n → y < n → ((x ≡ i) × (y ≡ j) → ⊥) → lead all k x y ≡ false
  lead_other h x y l m o = elim (compared x i) [
    | same e u ↦ elim (compared y j) [
      | same f v ↦ absurd (o (e, f))
      | other f v ↦ elim (compared y i) [
        | same a b ↦ lead_shorter all k x y (rw (e, a) (le_refl _))
        | other a b ↦ lead_second all k x y (t.others y m a f)
      ]
    ]
    | other e u ↦ elim (compared x j) [
      | same f v ↦ elim (compared y i) [
        | same a b ↦ rw (f, a) h
        | other a b ↦ elim (compared y j) [
          | same c d ↦ lead_shorter all k x y (rw (f, c) (le_refl _))
          | other c d ↦ lead_second all k x y (t.others y m a c)
        ]
      ]
      | other f v ↦ lead_first all k x y (t.others x l e f)
    ]
  ]

  module _ (a : lead all k i j ≡ true) where
    longer : (get_or all j gone).keep < (get_or all i gone).keep
    longer = ltb-true _ _ (and_right (living all i && living all j) _ (and_left _ (leb k ((get_or all i gone).keep - (get_or all j gone).keep)) a))

    no_other : (x y : ℕ) → x < n → y < n → ((x ≡ i) × (y ≡ j) → ⊥) → lead all k x y ≡ false
    no_other = lead_other (lead_shorter all k j i (omega (arith, longer)))

    first_leads : some_below n (lead all k i) ≡ true
    first_leads = some_found (lead all k i) n j t.two a

    pub leads_one : Leader all n 2 (Some k) (Some i)
    leads_one = record {
      wins = λ x l. elim (compared i x) [
        | same e u ↦ ap (λ (x : ℕ). some_below n (lead all k x)) (sym e) ∙ first_leads ∙ sym u
        | other e u ↦ some_false (lead all k x) n (λ y m. no_other x y l m (λ q. e (sym q.0))) ∙ sym u
      ];
      loses = λ x l. elim (compared x j) [
        | same e u ↦
            ap (λ (x : ℕ). some_below n (λ y. lead all k y x)) e
            ∙ some_found (λ y. lead all k y j) n i t.one a
            ∙ sym (ap (λ (x : ℕ). living all x && not (eqb i x) && true) e ∙ rw (t.second, ne_eqb i j t.apart))
        | other e u ↦ some_false (λ y. lead all k y x) n (λ y m. no_other y x m l (λ q. e q.1)) ∙ elim (compared i x) [
          | same f v ↦ sym (rw (v, and-false (living all x)))
          | other f v ↦ sym (rw (t.others x l (λ q. f (sym q)) e))
        ]
      ];
      ends = some_found (λ x. some_below n (lead all k x)) n i t.one first_leads;
    }

-- i and j live; r is whether i is the longer by k or more, s whether j is
module _ (all : List After) (n i j : ℕ) (t : TwoLive all n i j) (k : ℕ) where
  pub leads_first : (r : Bool) → Longer (get_or all i gone) (get_or all j gone) k r → r ≡ true → Leads all n k (Some i)
  leads_first r p e = record { leader = leads_one all n i j t k (lead_is all n i j t k r p ∙ e) }

  pub leads_second : (s : Bool) → Longer (get_or all j gone) (get_or all i gone) k s → s ≡ true → Leads all n k (Some j)
  leads_second s q e = let u = swap_live all n i j t in record { leader = leads_one all n j i u k (lead_is all n j i u k s q ∙ e) }

  pub leads_neither : (r s : Bool) → Longer (get_or all i gone) (get_or all j gone) k r → Longer (get_or all j gone) (get_or all i gone) k s → r ≡ false → s ≡ false → Leads all n k None
  leads_neither r s p q d e =
      let u = swap_live all n i j t in
      let a = lead_is all n i j t k r p ∙ d in
      let b = lead_is all n j i u k s q ∙ e in
      record {
        leader = nobody_leads all n 2 (Some k) (λ x y l m. elim (compared x i) [
          | same c v ↦ elim (compared y j) [ same f v ↦ rw (c, f) a | other f v ↦ lead_other all n i j t k b x y l m (λ q. f q.1) ]
          | other c v ↦ lead_other all n i j t k b x y l m (λ q. c q.0)
        ]);
      }

-- ---- by the lead that is set

module _ (all : List After) (n alive : ℕ) (lead : Option ℕ) where
  pub leader_unset : lead ≡ None → Leader all n alive lead None
  leader_unset e = rw e (nobody_leads all n alive None (λ x y l m. refl))

  module _ (k : ℕ) (e : lead ≡ Some k) where
    pub leader_alone : (alive ≡ 2 → ⊥) → Leader all n alive lead None
    leader_alone h = rw e (nobody_leads all n alive (Some k) (λ x y l m. rw (ne_eqb alive 2 h)))

    pub leader_two : alive ≡ 2 → (r : Option ℕ) → Leads all n k r → Leader all n alive lead r
    leader_two h r q = rw (e, h) q.leader
