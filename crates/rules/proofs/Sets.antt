-- Each set of k free cells is drawn, and added to the food, by exactly k! indices. The draws whose cells all pass a test are counted
-- first, for any test; a draw of k cells of a set of k has them all. Assumes nothing.
use mathlib.Core.Path.{◌≡◌, refl, sym, ap, ◌∙◌, subst}
use mathlib.Core.Logic.{◌⊎◌, inl, inr, ⊎_elim}
use mathlib.Core.Bool.{Bool, true, false, ◌&&◌}
use mathlib.Core.List.{List, [], ◌∷◌}
use Prim.Native.Nat.{ℕ, zero, suc, ◌+◌, ◌-◌, ◌*◌, ◌<◌, zero-le}
use native.Mathlib.Nat.{suc_inj, zero-mul, one-mul}
use native.Mathlib.Omega.{arith}
use lib.Arith.{digits_lt, digits_div, digits_mod}
use lib.ListN.{length, get_or}
use Rattle.lists.specs.Choice.{bit}
use Rattle.lists.specs.Below.{count_below, sum_below}
use Rattle.lists.specs.Lists.{all, keep, member, distinct, ascending, insert, without}
use Rattle.lists.specs.Products.{falling, factorial}
use Rattle.lists.specs.Equal.{same_list}
use Rattle.lists.proofs.Below.{sum_ext, count_ext}
use Rattle.lists.proofs.Lists.{member_at, keep_small}
use Rattle.lists.proofs.Members.{clash, fails, agree, member_first, member_more, member_cases, member_none, all_member, all_members, length_without, not_in_without, distinct_without, distinct_rest, distinct_apart, covers}
use Rattle.lists.proofs.Order.{of_insert, in_insert, insert_long, ascending_insert, ascending_same}
use Rattle.lists.proofs.Products.{falling_first, falling_self}
use Rattle.lists.proofs.Blocks.{count_sum, sum_zero, sum_blocks, keep_places, keep_without, keep_ext, keep_nothing}
use Rattle.lists.proofs.Equal.{same_list_lem, list_same}
use Rattle.rules.specs.Chance.{drawn_from, with_food}
use Rattle.rules.proofs.Draws.{Listed, InTurn, listed_turn, drawn_step, drawn_none, drawn_listed}

-- ---- the indices whose draws stay within a test: as many as there are ordered lists of k of the cells that pass

keep_empty : (p : ℕ → Bool) (l : List ℕ) → length l ≡ 0 → length (keep p l) ≡ 0
keep_empty p l e = let h = keep_small p l in omega arith

module _ (p : ℕ → Bool) (k : ℕ) (cells : List ℕ) (m : ℕ) (e : length cells ≡ suc m)
    (ih : (w : List ℕ) → length w ≡ m → sum_below (falling m k) (λ i. bit (all p (drawn_from w k i))) ≡ falling (length (keep p w)) k) where
  -- in a block the first cell stands, and the rest of the index draws from the list less that cell
  one : (q r : ℕ) → q < suc m → r < falling m k
      → drawn_from cells (suc k) (q * falling m k + r) ≡ get_or cells q 0 ∷ drawn_from (without (get_or cells q 0) cells) k r
  one q r h l = rw (digits_div q l, digits_mod q l) at (drawn_step cells m k (q * falling m k + r) e (digits_lt h l))

  inner : (q : ℕ) → q < suc m → (b : Bool) → p (get_or cells q 0) ≡ b
      → sum_below (falling m k) (λ r. bit (p (get_or cells q 0) && all p (drawn_from (without (get_or cells q 0) cells) k r)))
      ≡ bit (p (get_or cells q 0)) * falling (length (keep p cells) - 1) k
  inner q h true t =
      let c = get_or cells q 0 in
      let i : member c cells ≡ true = member_at cells q (rw e h) in
      let a : length (keep p cells) ≡ 1 + length (keep p (without c cells)) = rw t at (keep_without p c cells i) in
      let a' : length (keep p cells) - 1 ≡ length (keep p (without c cells)) = omega arith in
      rw (t, a') (ih (without c cells) (suc_inj (sym (length_without c cells i) ∙ e)) ∙ sym (one-mul _))
  inner q h false t = rw t (sum_zero (falling m k) ∙ sym (zero-mul _))

  block : (q : ℕ) → q < suc m
      → sum_below (falling m k) (λ r. bit (all p (drawn_from cells (suc k) (q * falling m k + r)))) ≡ bit (p (get_or cells q 0)) * falling (length (keep p cells) - 1) k
  unfolding all
  block q h = sum_ext (falling m k) _ _ (λ r l. ap (λ (x : List ℕ). bit (all p x)) (one q r h l)) ∙ inner q h (p (get_or cells q 0)) refl

within_at : (p : ℕ → Bool) (k n : ℕ) (cells : List ℕ) → length cells ≡ n
    → sum_below (falling n k) (λ i. bit (all p (drawn_from cells k i))) ≡ falling (length (keep p cells)) k
unfolding all falling sum_below
within_at p zero n cells e = rw (drawn_none cells 0)
within_at p (suc k) zero cells e = rw (keep_empty p cells e)
within_at p (suc k) (suc m) cells e =
    sum_blocks _ (suc m) (falling m k)
    ∙ sum_ext (suc m) _ _ (block p k cells m e (λ w l. within_at p k m w l))
    ∙ ap (λ (n : ℕ). sum_below n (λ q. bit (p (get_or cells q 0)) * falling (length (keep p cells) - 1) k)) (sym e)
    ∙ keep_places p (falling (length (keep p cells) - 1) k) cells
    ∙ sym (falling_first (length (keep p cells)) k)

-- ---- sets

-- of the cells exactly the k of the set are in the set
keep_set : (l cells : List ℕ) → distinct cells ≡ true → InTurn cells l → length (keep (λ x. member x l) cells) ≡ length l
keep_set [] cells u g = rw (keep_nothing cells)
keep_set (c ∷ l) cells u g =
    let w = without c cells in
    let away : (x : ℕ) → member x w ≡ true → member x (c ∷ l) ≡ member x l =
    λ x m. agree (member x (c ∷ l)) (member x l)
    (λ h. ⊎_elim (λ e. absurd (not_in_without c cells u (subst (λ (y : ℕ). member y w ≡ true) e m))) (λ z. z) (member_cases x c l h))
    (λ h. member_more x c l h) in
    rw (keep_without (λ x. member x (c ∷ l)) c cells g.0, member_first c l, keep_ext (λ x. member x (c ∷ l)) (λ x. member x l) w away, keep_set l w (distinct_without c cells u) g.1)
    (omega arith)

-- the cells of each draw that stays within the set s are those of s: exactly k! of the indices below the count
pub within_count : (cells s : List ℕ) (k : ℕ) → distinct cells ≡ true → Listed cells k s
    → count_below (falling (length cells) k) (λ i. all (λ x. member x s) (drawn_from cells k i)) ≡ factorial k
within_count cells s k u r =
    count_sum (falling (length cells) k) (λ i. all (λ x. member x s) (drawn_from cells k i))
    ∙ within_at (λ x. member x s) k (length cells) cells refl
    ∙ ap (λ (n : ℕ). falling n k) (keep_set s cells u (listed_turn cells s k r) ∙ r.long)
    ∙ falling_self k

-- ---- the food with the cells of a list

pub with_none : (food : List ℕ) → with_food food [] ≡ food
unfolding with_food
with_none food = refl

-- its members are those of the food and those of the list
pub of_with : (l food : List ℕ) (x : ℕ) → member x (with_food food l) ≡ true → (member x food ≡ true) ⊎ (member x l ≡ true)
unfolding with_food
of_with [] food x m = inl m
of_with (c ∷ l) food x m =
    ⊎_elim (λ q. ⊎_elim (λ e. inr (rw e (member_first c l))) (λ z. inl z) (of_insert c x food q)) (λ q. inr (member_more x c l q))
    (of_with l (insert c food) x m)

pub in_with : (l food : List ℕ) (x : ℕ) → (member x food ≡ true) ⊎ (member x l ≡ true) → member x (with_food food l) ≡ true
unfolding with_food
in_with [] food x (inl m) = m
in_with [] food x (inr m) = absurd (member_none x m)
in_with (c ∷ l) food x (inl m) = in_with l (insert c food) x (inl (in_insert c x food (inr m)))
in_with (c ∷ l) food x (inr m) =
    ⊎_elim (λ e. in_with l (insert c food) x (inl (in_insert c x food (inl e)))) (λ z. in_with l (insert c food) x (inr z)) (member_cases x c l m)

pub with_long : (l food : List ℕ) → length (with_food food l) ≡ length food + length l
unfolding with_food
with_long [] food = omega arith
with_long (c ∷ l) food = rw (with_long l (insert c food), insert_long c food) (omega arith)

pub with_ascending : (l food : List ℕ) → ascending 0 food ≡ true → distinct l ≡ true → ((c : ℕ) → member c l ≡ true → member c food ≡ false)
    → ascending 0 (with_food food l) ≡ true
unfolding with_food
with_ascending [] food f u d = f
with_ascending (c ∷ l) food f u d =
    with_ascending l (insert c food) (ascending_insert 0 c food zero-le f (d c (member_first c l))) (distinct_rest c l u)
    (λ x m. fails (member x (insert c food)) (λ h.
    ⊎_elim (λ e. distinct_apart x c l u m e) (λ z. clash z (d x (member_more x c l m))) (of_insert c x food h)))

module _ (food cells : List ℕ) (k : ℕ) (f : ascending 0 food ≡ true) (off : (c : ℕ) → member c cells ≡ true → member c food ≡ false) where
  pub listed_ascending : (l : List ℕ) → Listed cells k l → ascending 0 (with_food food l) ≡ true
  listed_ascending l r = with_ascending l food f r.once (λ c m. off c (r.among c m))

  -- two lists that add the same food have the same cells
  within_same : (l s : List ℕ) → Listed cells k l → with_food food l ≡ with_food food s → all (λ x. member x s) l ≡ true
  within_same l s r e =
      all_members (λ x. member x s) l (λ c m.
      ⊎_elim (λ z. absurd (clash z (off c (r.among c m)))) (λ z. z)
      (of_with s food c (subst (λ (w : List ℕ). member c w ≡ true) e (in_with l food c (inr m)))))

  same_within : (l s : List ℕ) → Listed cells k l → Listed cells k s → all (λ x. member x s) l ≡ true → with_food food l ≡ with_food food s
  same_within l s r q t =
      let sub : (x : ℕ) → member x l ≡ true → member x s ≡ true = λ x m. all_member (λ y. member y s) l x t m in
      let sup : (x : ℕ) → member x s ≡ true → member x l ≡ true = covers l s r.once sub (q.long ∙ sym r.long) in
      ascending_same 0 0 (with_food food l) (with_food food s) (listed_ascending l r) (listed_ascending s q)
      (λ c m. in_with s food c (⊎_elim (λ z. inl z) (λ z. inr (sub c z)) (of_with l food c m)))
      (λ c m. in_with l food c (⊎_elim (λ z. inl z) (λ z. inr (sup c z)) (of_with s food c m)))

  -- each set s of k cells is added to the food by exactly k! of the indices below the count
  pub food_count : (s : List ℕ) → distinct cells ≡ true → Listed cells k s
      → count_below (falling (length cells) k) (λ i. same_list (with_food food (drawn_from cells k i)) (with_food food s)) ≡ factorial k
  food_count s u q =
      count_ext (falling (length cells) k) _ (λ i. all (λ x. member x s) (drawn_from cells k i)) (λ i h.
      let l = drawn_from cells k i in
      let r = drawn_listed cells k i u h in
      agree (same_list (with_food food l) (with_food food s)) (all (λ x. member x s) l)
      (λ t. within_same l s r (same_list_lem (with_food food l) (with_food food s) t))
      (λ t. list_same (with_food food l) (with_food food s) (same_within l s r q t)))
      ∙ within_count cells s k u q
