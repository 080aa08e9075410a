-- The free squares of a board: they ascend, and are those that are not used; one square more used; a scan of the board. Assumes nothing.
use mathlib.Core.Path.{◌≡◌, refl, sym, ap, ◌∙◌}
use mathlib.Core.Logic.{inl, inr, ⊎_elim}
use mathlib.Core.Bool.{Bool, true, false, ◌||◌}
use mathlib.Core.List.{List, ◌∷◌, ◌++◌}
use Prim.Native.Nat.{ℕ, zero, suc, ◌+◌, ◌≤◌, ◌<◌, zero-le}
use native.Mathlib.Nat.{zero-add, suc-add, add-zero, le_refl, lt_irrefl, eq-or-lt_of_le, le_dest}
use native.Mathlib.Omega.{arith}
use lib.Dec.{eqb}
use lib.ListN.{length, get_or}
use lib.Seq.{get_or-append_seam}
use borrow.Author.Tests.{eq-eqb, ne_eqb}
use Rattle.lists.specs.Lists.{member, ascending, without, place}
use Rattle.lists.proofs.Tests.{compared, same, other, tell}
use Rattle.lists.proofs.Members.{fails, member_none, member_first, member_more, member_cases, without_away, place_seam}
use Rattle.lists.proofs.Order.{ascending_none, ascending_more, ascending_le}
use Rattle.boards.specs.Free.{free_from}

pub free_ext : (p q : ℕ → Bool) (n a : ℕ) → ((x : ℕ) → a ≤ x → x < a + n → p x ≡ q x) → free_from p a n ≡ free_from q a n
unfolding free_from
free_ext p q zero a f = refl
free_ext p q (suc n) a f = rw (f a (le_refl a) (omega arith), free_ext p q n (suc a) (λ x l h. f x (omega arith) (omega arith)))

module _ (used : ℕ → Bool) where
  pub from_ascending : (n a b : ℕ) → a ≤ b → ascending a (free_from used b n) ≡ true
  unfolding free_from
  from_ascending zero a b l = ascending_none a
  from_ascending (suc n) a b l = elim (tell (used b)) [
    | inl e ↦ rw e (from_ascending n a (suc b) (omega arith))
    | inr e ↦ rw e (ascending_more a b (free_from used (suc b) n) l (from_ascending n (suc b) (suc b) (le_refl _)))
  ]

  pub from_few : (n a : ℕ) → length (free_from used a n) ≤ n
  unfolding free_from
  from_few zero a = zero-le
  from_few (suc n) a = elim (tell (used a)) [
    | inl e ↦ rw e (let r = from_few n (suc a) in omega arith)
    | inr e ↦ rw e (let r = from_few n (suc a) in omega arith)
  ]

  -- what stands in the list is on the board and not used
  pub of_from : (n a c : ℕ) → member c (free_from used a n) ≡ true → (used c ≡ false) × (c < a + n)
  unfolding free_from
  of_from zero a c m = absurd (member_none c m)
  of_from (suc n) a c m = elim (tell (used a)) [
    | inl e ↦ let r = of_from n (suc a) c (rw e at m) in (r.0, omega arith)
    | inr e ↦
        ⊎_elim (λ q. (rw q e, omega arith)) (λ q. let r = of_from n (suc a) c q in (r.0, omega arith))
        (member_cases c a (free_from used (suc a) n) (rw e at m))
  ]

  pub in_from : (n a c : ℕ) → used c ≡ false → a ≤ c → c < a + n → member c (free_from used a n) ≡ true
  unfolding free_from
  in_from zero a c u l h = absurd (lt_irrefl a (omega arith))
  in_from (suc n) a c u l h = elim (eq-or-lt_of_le l) [
    | inl e ↦ rw (e, u) (member_first c (free_from used (suc c) n))
    | inr g ↦
        let m = in_from n (suc a) c u g (omega arith) in
        elim (tell (used a)) [ inl e ↦ rw e m | inr e ↦ rw e (member_more c a (free_from used (suc a) n) m) ]
  ]

  -- the free cells once c is used are the free cells less c
  pub from_without : (c n a : ℕ) → free_from (λ x. eqb x c || used x) a n ≡ without c (free_from used a n)
  unfolding free_from without
  from_without c zero a = refl
  from_without c (suc n) a = elim (compared a c) [
    | same e t ↦
        let f = free_from used (suc a) n in
        let t' : eqb c a ≡ true = eq-eqb c a (sym e) in
        let x : free_from (λ x. eqb x c || used x) (suc a) n ≡ f =
        free_ext (λ x. eqb x c || used x) used n (suc a) (λ x l _. rw (ne_eqb x c (λ q. lt_irrefl a (omega arith)))) in
        let y : without c f ≡ f =
        without_away c f (fails (member c f) (λ m. let l = ascending_le (suc a) c f (from_ascending n (suc a) (suc a) (le_refl _)) m in lt_irrefl a (omega arith))) in
        elim (tell (used a)) [ inl u ↦ rw (t, u) (x ∙ sym y) | inr u ↦ rw (t, u, t') x ]
    | other d t ↦
        let t' : eqb c a ≡ false = ne_eqb c a (λ q. d (sym q)) in
        elim (tell (used a)) [
          | inl u ↦ rw (t, u) (from_without c n (suc a))
          | inr u ↦ rw (t, u, t') (ap (λ (l : List ℕ). a ∷ l) (from_without c n (suc a)))
        ]
  ]

  -- what is free among the first n cells, and the rest
  pub from_split : (n m a : ℕ) → free_from used a (n + m) ≡ free_from used a n ++ free_from used (a + n) m
  unfolding free_from
  from_split zero m a = rw (zero-add, add-zero)
  from_split (suc n) m a =
      let ih : free_from used (suc a) (n + m) ≡ free_from used (suc a) n ++ free_from used (a + suc n) m =
      from_split n m (suc a) ∙ ap (λ (x : ℕ). free_from used (suc a) n ++ free_from used x m) (omega arith) in
      elim (tell (used a)) [ inl u ↦ rw (suc-add, u) ih | inr u ↦ rw (suc-add, u) (ap (λ (l : List ℕ). a ∷ l) ih) ]

  -- an unused cell is the free cell whose number is the count of the free cells below it
  pub scan_hit : (n c : ℕ) → c < n → used c ≡ false → get_or (free_from used 0 n) (length (free_from used 0 c)) 0 ≡ c
  unfolding free_from
  scan_hit n c h u =
      let (m, e) = le_dest h in
      let e' : n ≡ c + suc m = omega arith in
      rw (e', from_split c (suc m) 0, zero-add c, u) (get_or-append_seam (free_from used 0 c) c (free_from used (suc c) m) 0)

  -- and its place is that count
  pub place_scan : (n c : ℕ) → c < n → used c ≡ false → place c (free_from used 0 n) ≡ length (free_from used 0 c)
  unfolding free_from
  place_scan n c h u =
      let (m, e) = le_dest h in
      let e' : n ≡ c + suc m = omega arith in
      rw (e', from_split c (suc m) 0, zero-add c, u)
      (place_seam c (free_from used 0 c) (free_from used (suc c) m)
      (fails (member c (free_from used 0 c)) (λ z. let g = of_from c 0 c z in lt_irrefl c (omega arith))))
