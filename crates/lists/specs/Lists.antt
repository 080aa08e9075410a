-- What is asked of a list, as functions that compute: tests, parts, order. Assumes nothing.
use Rattle.std.specs.Prelude.{ℕ, suc, ◌+◌, Bool, true, false, not, cond, ◌&&◌, ◌||◌, List, [], ◌∷◌, ◌++◌, leb, eqb, length, take, drop}

-- a list of tests: all pass
unfoldable pub every : List Bool → Bool
every [] = true
every (t ∷ ts) = t && every ts

unfoldable pub all : {A : Type 0} → (A → Bool) → List A → Bool
all p [] = true
all p (x ∷ xs) = p x && all p xs

unfoldable pub any : {A : Type 0} → (A → Bool) → List A → Bool
any p [] = false
any p (x ∷ xs) = p x || any p xs

-- those that pass, in their order
unfoldable pub keep : {A : Type 0} → (A → Bool) → List A → List A
keep p [] = []
keep p (x ∷ xs) = let r = keep p xs in cond (p x) (x ∷ r) r

unfoldable pub member : ℕ → List ℕ → Bool
member x [] = false
member x (y ∷ ys) = eqb x y || member x ys

-- no number twice
unfoldable pub distinct : List ℕ → Bool
distinct [] = true
distinct (x ∷ xs) = not (member x xs) && distinct xs

-- strictly ascending, and none below `low`
unfoldable pub ascending : ℕ → List ℕ → Bool
ascending low [] = true
ascending low (x ∷ xs) = leb low x && ascending (suc x) xs

-- x put into its place of an ascending list
unfoldable pub insert : ℕ → List ℕ → List ℕ
insert x [] = x ∷ []
insert x (y ∷ ys) = let r = insert x ys in cond (leb x y) (x ∷ y ∷ ys) (y ∷ r)

-- the list less the first x
unfoldable pub without : ℕ → List ℕ → List ℕ
without x [] = []
without x (y ∷ ys) = let r = without x ys in cond (eqb x y) ys (y ∷ r)

-- how many stand before the first x
unfoldable pub place : ℕ → List ℕ → ℕ
place x [] = 0
place x (y ∷ ys) = let r = place x ys in cond (eqb x y) 0 (suc r)

-- the words of s over those of d from index `at` on
unfoldable pub write_at : {A : Type 0} → List A → ℕ → List A → List A
write_at d at s = take at d ++ s ++ drop (at + length s) d

-- the words of s over the front of d; those after them keep their values
unfoldable pub over_front : {A : Type 0} → List A → List A → List A
over_front s d = s ++ drop (length s) d
