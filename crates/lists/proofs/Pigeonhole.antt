-- Different numbers below m are at most m. Assumes nothing.
use mathlib.Core.Path.{◌≡◌}
use mathlib.Core.Logic.{⊎_elim}
use mathlib.Core.Bool.{true}
use mathlib.Core.List.{List, [], ◌∷◌}
use Prim.Native.Nat.{ℕ, zero, suc, ◌<◌, ◌≤◌, zero-le}
use native.Mathlib.Nat.{not-suc-le-zero}
use native.Mathlib.Omega.{arith}
use lib.Dec.{ltb}
use lib.ListN.{length}
use borrow.Author.Tests.{ltb-true}
use Rattle.lists.specs.Lists.{all, member, distinct, without}
use Rattle.lists.proofs.Tests.{tell, compared, same, other}
use Rattle.lists.proofs.Members.{clash, member_first, all_member, length_without, of_without, not_in_without, distinct_without}

-- a number below suc m that is not m
narrow : (m x : ℕ) → x < suc m → (x ≡ m → ⊥) → x < m
narrow m x h n = elim (compared x m) [ same e t ↦ absurd (n e) | other _ t ↦ omega arith ]

pub distinct_short : (m : ℕ) (l : List ℕ) → distinct l ≡ true → ((x : ℕ) → member x l ≡ true → x < m) → length l ≤ m
distinct_short zero [] u b = zero-le
distinct_short zero (x ∷ l) u b = absurd (not-suc-le-zero (b x (member_first x l)))
distinct_short (suc m) l u b = ⊎_elim
    (λ t.
    let r = distinct_short m (without m l) (distinct_without m l u)
    (λ x k. narrow m x (b x (of_without x m l k)) (λ e. not_in_without m l u (rw e at k))) in
    omega (arith, length_without m l t))
    (λ f.
    let r = distinct_short m l u (λ x k. narrow m x (b x k) (λ e. clash (rw e at k) f)) in
    omega arith)
    (tell (member m l))

pub cells_short : (m : ℕ) (l : List ℕ) → distinct l ≡ true → all (λ c. ltb c m) l ≡ true → length l ≤ m
cells_short m l u b = distinct_short m l u (λ x k. ltb-true x m (all_member (λ c. ltb c m) l x b k))
