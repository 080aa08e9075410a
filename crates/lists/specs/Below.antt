-- The numbers below n, as a loop that counts up goes through them: all pass, some one passes, how many pass, what each gives.
-- Assumes nothing.
use Rattle.std.specs.Prelude.{ℕ, zero, suc, ◌+◌, ◌-◌, Bool, true, false, cond, ◌&&◌, ◌||◌, List, [], ◌∷◌, ◌++◌, replicate}
use Rattle.lists.specs.Choice.{bit}

unfoldable pub all_below : ℕ → (ℕ → Bool) → Bool
all_below zero p = true
all_below (suc n) p = all_below n p && p n

unfoldable pub some_below : ℕ → (ℕ → Bool) → Bool
some_below zero p = false
some_below (suc n) p = some_below n p || p n

unfoldable pub count_below : ℕ → (ℕ → Bool) → ℕ
count_below zero p = 0
count_below (suc n) p = count_below n p + bit (p n)

unfoldable pub sum_below : ℕ → (ℕ → ℕ) → ℕ
sum_below zero f = 0
sum_below (suc n) f = sum_below n f + f n

unfoldable pub each_below : {A : Type 0} → ℕ → (ℕ → A) → List A
each_below zero f = []
each_below (suc n) f = each_below n f ++ (f n ∷ [])

unfoldable pub concat_below : {A : Type 0} → ℕ → (ℕ → List A) → List A
concat_below zero f = []
concat_below (suc n) f = concat_below n f ++ f n

-- of the k numbers from j up, the lowest that passes; the number past them where none does
unfoldable pub lowest_from : (ℕ → Bool) → ℕ → ℕ → ℕ
lowest_from p j zero = j
lowest_from p j (suc k) = let r = lowest_from p (suc j) k in cond (p j) j r

-- n places: what each of the first i gives, and blanks
unfoldable pub filled : {A : Type 0} → (ℕ → A) → ℕ → ℕ → A → List A
unfolding each_below
filled f i n blank = each_below i f ++ replicate (n - i) blank
