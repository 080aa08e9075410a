-- The digits of an index, the last lowest: below the count they are also those taken from the first on. Assumes nothing.
use mathlib.Core.Path.{◌≡◌, refl, sym, ap, ap₂, ◌∙◌, subst}
use mathlib.Core.List.{List, [], ◌∷◌, ◌++◌, append_assoc}
use Prim.Native.Nat.{ℕ, zero, suc, ◌+◌, ◌-◌, ◌*◌, ◌/◌, ◌%◌, ◌<◌}
use native.Mathlib.Nat.{mul_comm, suc-sub-suc, div-div-eq-div-mul, mod-lt, mod-eq_of_lt, div-one, div-lt_iff_lt-mul, not-suc-le-zero, sub-zero}
use native.Mathlib.Omega.{arith}
use lib.Arith.{digits_div, digits_mod, mod-mul}
use lib.ListN.{length, length-append}
use Rattle.lists.specs.Products.{falling}
use Rattle.lists.proofs.Products.{falling_last, pos_left, pos_right}
use Rattle.rules.specs.Chance.{digits}

-- the digits, the first one first
abbrev top : ℕ → ℕ → ℕ → List ℕ
top n zero i = []
top zero (suc k) i = []
top (suc n) (suc k) i = (i / falling n k) ∷ top n k (i % falling n k)

top_last : (n k i : ℕ) → i < falling n (suc k) → top n (suc k) i ≡ top n k (i / (n - k)) ++ (i % (n - k) ∷ [])
unfolding falling
top_last zero k i h = absurd (not-suc-le-zero h)
top_last (suc n) zero i h = rw (sub-zero, div-one, mod-eq_of_lt {n = i} {m = suc n} (omega arith))
top_last (suc n) (suc k) i h =
    let f = falling n k in
    let b = n - k in
    let e : falling n (suc k) ≡ f * b = falling_last n k in
    let p : zero < falling n (suc k) = pos_right (suc n) (falling n (suc k)) i h in
    let q : zero < f * b = subst (λ (x : ℕ). zero < x) e p in
    let qf : zero < f = pos_left f b 0 q in
    let qb : zero < b = pos_right f b 0 q in
    let r : i % b < b = mod-lt i qb in
    let s : i % (f * b) ≡ (i / b % f) * b + i % b = mod-mul i qf qb in
    rw (top_last n k (i % falling n (suc k)) (mod-lt i p), suc-sub-suc, e)
    (ap₂ (λ (x : ℕ) (l : List ℕ). x ∷ l) (ap (λ (x : ℕ). i / x) (mul_comm f b) ∙ sym (div-div-eq-div-mul i b f))
    (ap₂ (λ (x y : ℕ). top n k x ++ (y ∷ [])) (ap (λ (x : ℕ). x / b) s ∙ digits_div (i / b % f) r) (ap (λ (x : ℕ). x % b) s ∙ digits_mod (i / b % f) r)))

digits_top : (n k i : ℕ) → i < falling n k → digits n k i ≡ top n k i
unfolding digits
digits_top n zero i h = refl
digits_top n (suc k) i h =
    let q : i < falling n k * (n - k) = rw (falling_last n k) at h in
    rw (top_last n k i h, digits_top n k (i / (n - k)) ((div-lt_iff_lt-mul (pos_right (falling n k) (n - k) i q)).1 q))

-- the first digit, and the digits of what is left
pub digits_first : (n k i : ℕ) → i < suc n * falling n k → digits (suc n) (suc k) i ≡ (i / falling n k) ∷ digits n k (i % falling n k)
unfolding falling
digits_first n k i h =
    let p : zero < falling n k = pos_right (suc n) (falling n k) i h in
    digits_top (suc n) (suc k) i h ∙ ap (λ (l : List ℕ). (i / falling n k) ∷ l) (sym (digits_top n k (i % falling n k) (mod-lt i p)))

pub digits_length : (n k i : ℕ) → length (digits n k i) ≡ k
unfolding digits
digits_length n zero i = refl
digits_length n (suc k) i = simp (length-append, digits_length n k (i / (n - k))) (omega arith)

-- a loop that takes the digits from the last to the first
pub digits_next : (n j r : ℕ) (t : List ℕ) → digits n (suc j) r ++ t ≡ digits n j (r / (n - j)) ++ (r % (n - j) ∷ t)
unfolding digits
digits_next n j r t = append_assoc (digits n j (r / (n - j))) (r % (n - j) ∷ []) t
