-- 'A birth chain with p due ends after exactly min(p, n+1) draws', whatever indices below the counts it draws. Assumes nothing.
use mathlib.Core.Path.{◌≡◌, refl, sym, ap, ◌∙◌, subst}
use mathlib.Core.Logic.{◌⊎◌, inl, inr}
use mathlib.Core.Bool.{true, not, ◌||◌, or_assoc}
use mathlib.Core.List.{[], ◌∷◌}
use Prim.Native.Nat.{ℕ, zero, suc, ◌+◌, ◌<◌, min}
use native.Mathlib.Nat.{not-suc-le-zero, suc_inj, lt_irrefl, suc-ne-zero, zero-add}
use native.Mathlib.Omega.{arith}
use lib.Dec.{eqb}
use lib.ListN.{length, get_or}
use borrow.Author.Tests.{eq-eqb, ne_eqb}
use Rattle.lists.specs.Lists.{member, without}
use Rattle.lists.proofs.Lists.{member_at}
use Rattle.lists.proofs.Members.{length_without}
use Rattle.lists.proofs.Order.{member_insert}
use Rattle.lists.proofs.Lowest.{lowest_is}
use Rattle.rules.specs.State.{State, area}
use Rattle.rules.specs.Chance.{taken, free, outcomes, drawn, with_food, after_draw}
use Rattle.rules.specs.Births.{after_draws, chain_draws, Ends, InRange}
use Rattle.boards.proofs.Free.{free_ext, from_without}
use Rattle.rules.proofs.Fairness.{born, born_full, birth_count}

-- after a birth draw the free cells are those before it less the cell drawn
pub free_born : (t : State) (i : ℕ) → t.birth ≡ true → i < length (free t) → free (after_draw t i) ≡ without (get_or (free t) i 0) (free t)
unfolding free after_draw with_food
free_born t i b h =
    let c = get_or (free t) i 0 in
    let e : drawn t i ≡ c ∷ [] = (born t b i h).cell in
    free_ext (taken (after_draw t i)) (λ x. eqb x c || taken t x) (area t) 0 (λ x _ _. rw (e, member_insert c x t.food) (or_assoc (eqb x c) (member x t.food) _))
    ∙ from_without (taken t) c (area t) 0

born_left : (t : State) (i m : ℕ) → t.birth ≡ true → i < length (free t) → length (free t) ≡ suc m → length (free (after_draw t i)) ≡ m
born_left t i m b h e =
    ap length (free_born t i b h) ∙ suc_inj (sym (length_without (get_or (free t) i 0) (free t) (member_at (free t) i h)) ∙ e)

-- birth stays while food is due
born_on : (t : State) (i q : ℕ) → t.birth ≡ true → i < length (free t) → t.due ≡ suc q → (q ≡ 0) ⊎ ((after_draw t i).birth ≡ true)
born_on t i zero b h e = inl refl
born_on t i (suc q) b h e =
    inr ((born t b i h).birth ∙ ap not (ne_eqb t.due 1 (λ z. suc-ne-zero q (suc_inj (sym e ∙ z)))))

ends_now : (index : ℕ → ℕ) (t : State) → t.due ≡ 0 → Ends index t 0
unfolding after_draws
ends_now index t e = record { last = e; before = λ j h. absurd (not-suc-le-zero h) }

ends_later : (index : ℕ → ℕ) (t : State) (k : ℕ) → 0 < t.due → Ends (λ j. index (suc j)) (after_draw t (index 0)) k → Ends index t (suc k)
unfolding after_draws
ends_later index t k h r = record { last = r.last; before = go }
  where
    go : (j : ℕ) → j < suc k → 0 < (after_draws index j t).due
    go zero l = h
    go (suc j) l = r.before j (omega arith)

range_next : (index : ℕ → ℕ) (t : State) → InRange index t → InRange (λ j. index (suc j)) (after_draw t (index 0))
unfolding after_draws
range_next index t r j h = r (suc j) h

range_first : (index : ℕ → ℕ) (t : State) → 0 < t.due → InRange index t → index 0 < outcomes t
unfolding after_draws
range_first index t h r = r 0 h

chain : (p n : ℕ) (index : ℕ → ℕ) (t : State) → t.due ≡ p → length (free t) ≡ n → (p ≡ 0) ⊎ (t.birth ≡ true) → InRange index t
    → Ends index t (min p (n + 1))
chain zero n index t e f b r = let z : min 0 (n + 1) ≡ 0 = omega arith in rw z (ends_now index t e)
chain (suc p) n index t e f (inl b) r = absurd (suc-ne-zero p b)
chain (suc p) zero index t e f (inr b) r =
    let z : min (suc p) (0 + 1) ≡ 1 = omega arith in
    rw z (ends_later index t 0 (rw e (omega arith)) (ends_now _ _ (born_full t b (index 0) f).0.due))
chain (suc p) (suc m) index t e f (inr b) r =
    let due : 0 < t.due = rw e (omega arith) in
    let some : 0 < length (free t) = rw f (omega arith) in
    let h : index 0 < length (free t) = rw (birth_count t b some) at (range_first index t due r) in
    let q : (after_draw t (index 0)).due ≡ p = let d = (born t b (index 0) h).due in omega arith in
    let z : min (suc p) (suc m + 1) ≡ suc (min p (m + 1)) = omega arith in
    rw z
    (ends_later index t (min p (m + 1)) due
    (chain p m (λ j. index (suc j)) (after_draw t (index 0)) q (born_left t (index 0) m b h f) (born_on t (index 0) p b h e) (range_next index t r)))

-- a chain from a state at birth with p due and n free cells
pub chain_ends : (index : ℕ → ℕ) (t : State) → t.birth ≡ true → InRange index t → Ends index t (min t.due (length (free t) + 1))
chain_ends index t b r = chain t.due (length (free t)) index t refl refl (inr b) r

pub chain_count : (index : ℕ → ℕ) (t : State) → t.birth ≡ true → InRange index t → chain_draws index t ≡ min t.due (length (free t) + 1)
unfolding chain_draws
chain_count index t b r =
    let k = min t.due (length (free t) + 1) in
    let e = chain_ends index t b r in
    lowest_is (λ j. eqb (after_draws index j t).due 0) 0 k (suc t.due) (omega arith)
    (rw zero-add (eq-eqb (after_draws index k t).due 0 e.last))
    (λ j h. rw zero-add (ne_eqb (after_draws index j t).due 0 (λ z. lt_irrefl 0 (subst (λ (x : ℕ). 0 < x) z (e.before j h)))))
    ∙ zero-add k
