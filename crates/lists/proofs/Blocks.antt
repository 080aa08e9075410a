-- Sums over the numbers below a product, by blocks; a count as a sum; how many of a list pass. Assumes nothing.
use mathlib.Core.Path.{◌≡◌, refl, sym, ap, ◌∙◌}
use mathlib.Core.Bool.{Bool, true, false, cond}
use mathlib.Core.List.{List, [], ◌∷◌}
use Prim.Native.Nat.{ℕ, zero, suc, ◌+◌, ◌*◌}
use native.Mathlib.Nat.{add-zero, add-suc, add_assoc, suc-mul, zero-mul, add-mul}
use native.Mathlib.Omega.{arith}
use lib.ListN.{length, get_or}
use Rattle.lists.specs.Choice.{bit}
use Rattle.lists.specs.Below.{count_below, sum_below}
use Rattle.lists.specs.Lists.{keep, member, without}
use Rattle.lists.proofs.Tests.{compared, same, other}
use Rattle.lists.proofs.Members.{member_none, member_rest, member_first, member_more}

pub count_sum : (n : ℕ) (p : ℕ → Bool) → count_below n p ≡ sum_below n (λ i. bit (p i))
unfolding count_below sum_below
count_sum zero p = refl
count_sum (suc n) p = rw (count_sum n p)

pub sum_zero : (n : ℕ) → sum_below n (λ i. 0) ≡ 0
unfolding sum_below
sum_zero zero = refl
sum_zero (suc n) = rw (sum_zero n)

-- the first a terms and the b after them
pub sum_split : (f : ℕ → ℕ) (a b : ℕ) → sum_below (a + b) f ≡ sum_below a f + sum_below b (λ r. f (a + r))
unfolding sum_below
sum_split f a zero = rw (add-zero, add-zero)
sum_split f a (suc b) = rw (add-suc, sum_split f a b) (add_assoc (sum_below a f) (sum_below b (λ r. f (a + r))) (f (a + b)))

-- the first term, and the others
pub sum_first : (f : ℕ → ℕ) (n : ℕ) → sum_below (suc n) f ≡ f 0 + sum_below n (λ i. f (suc i))
unfolding sum_below
sum_first f zero = omega arith
sum_first f (suc n) = rw (sum_first f n) (add_assoc (f 0) (sum_below n (λ i. f (suc i))) (f (suc n)))

-- a sum of a * b terms by blocks of b
pub sum_blocks : (f : ℕ → ℕ) (a b : ℕ) → sum_below (a * b) f ≡ sum_below a (λ q. sum_below b (λ r. f (q * b + r)))
unfolding sum_below
sum_blocks f zero b = rw zero-mul
sum_blocks f (suc a) b = rw (suc-mul a b, sum_split f (a * b) b, sum_blocks f a b)

-- ---- how many of a list pass

module _ (p : ℕ → Bool) where
  keep_cons : (x : ℕ) (l : List ℕ) → length (keep p (x ∷ l)) ≡ bit (p x) + length (keep p l)
  unfolding keep
  keep_cons x l = go (p x) (keep p l)
    where
      go : (b : Bool) (r : List ℕ) → length (cond b (x ∷ r) r) ≡ bit b + length r
      go true r = omega arith
      go false r = omega arith

  pub keep_places : (g : ℕ) (l : List ℕ) → sum_below (length l) (λ q. bit (p (get_or l q 0)) * g) ≡ length (keep p l) * g
  unfolding sum_below keep
  keep_places g [] = sym (zero-mul g)
  keep_places g (x ∷ l) =
      sum_first (λ q. bit (p (get_or (x ∷ l) q 0)) * g) (length l)
      ∙ ap (λ (k : ℕ). bit (p x) * g + k) (keep_places g l)
      ∙ sym (add-mul (bit (p x)) (length (keep p l)) g)
      ∙ ap (λ (k : ℕ). k * g) (sym (keep_cons x l))

  pub keep_without : (c : ℕ) (l : List ℕ) → member c l ≡ true → length (keep p l) ≡ bit (p c) + length (keep p (without c l))
  unfolding without
  keep_without c [] h = absurd (member_none c h)
  keep_without c (x ∷ l) h = elim (compared c x) [
    | same e t ↦ rw (t, e) (keep_cons x l)
    | other n t ↦ let r = keep_without c l (member_rest c x l n h) in rw t (omega (arith, keep_cons x l, keep_cons x (without c l)))
  ]

pub keep_ext : (p q : ℕ → Bool) (l : List ℕ) → ((x : ℕ) → member x l ≡ true → p x ≡ q x) → keep p l ≡ keep q l
unfolding keep
keep_ext p q [] h = refl
keep_ext p q (x ∷ l) h = rw (keep_ext p q l (λ y m. h y (member_more y x l m)), h x (member_first x l))

pub keep_nothing : (l : List ℕ) → keep (λ x. member x []) l ≡ []
unfolding keep member
keep_nothing [] = refl
keep_nothing (x ∷ l) = rw (keep_nothing l)
