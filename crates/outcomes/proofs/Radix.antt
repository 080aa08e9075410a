-- What the digits' loop goes by. Assumes nothing.
use mathlib.Core.Path.{◌≡◌, refl, sym, ap₂, ◌∙◌}
use mathlib.Core.List.{List, [], ◌∷◌, ◌++◌, append-nil}
use Prim.Native.Nat.{ℕ, zero, suc, ◌+◌, ◌-◌, ◌/◌, ◌%◌, ◌≤◌, ◌<◌}
use native.Mathlib.Nat.{not-suc-le-zero, le_refl, mod-lt}
use native.Mathlib.Omega.{arith}
use mir.Syntax.{w16}
use mir.Val.{Fits}
use lib.Arith.{lt_of_le-ne}
use lib.ListN.{length, get_or, drop, set, drop_of_length-le, length-set, get_or-append}
use lib.Seq.{drop-cons, lt-length-set, get_or-set_same, drop-set-lt, get_or_at}
use Rattle.rules.specs.Chance.{digits}
use Rattle.lists.proofs.Tests.{compared, same, other}
use Rattle.rules.proofs.Digits.{digits_length, digits_next}

-- a digit more, from the last to the first
digits_turn : (n j r : ℕ) (out : List ℕ) → zero < j → j ≤ length out
    → digits n j r ++ drop j out ≡ digits n (j - 1) (r / (n - (j - 1))) ++ drop (j - 1) (set out (j - 1) (r % (n - (j - 1))))
digits_turn n zero r out p h = absurd (not-suc-le-zero p)
digits_turn n (suc j) r out p h =
    let e : suc j - 1 ≡ j = omega arith in
    let v = r % (n - j) in
    let cut : drop j (set out j v) ≡ v ∷ drop (suc j) out =
    drop-cons (set out j v) j 0 (lt-length-set out j v h)
    ∙ ap₂ (λ (x : ℕ) (l : List ℕ). x ∷ l) (get_or-set_same out j v 0 h) (drop-set-lt (suc j) out j v (le_refl (suc j))) in
    rw (e, cut) (digits_next n j r (drop (suc j) out))

digits_none : (n r : ℕ) (out : List ℕ) → digits n 0 r ++ drop 0 out ≡ out
unfolding digits
digits_none n r out = refl

-- before the first digit is written, nothing of the list stands
digits_start : (d out : List ℕ) → d ≡ d ++ drop (length out) out
digits_start d out = rw (drop_of_length-le out (le_refl (length out))) (sym (append-nil d))

-- ---- the loop: the digits from j on are written, and what is left of the index has the others

pub record Splitting (old : List ℕ) (n index : ℕ) (list : List ℕ) (rest j : ℕ) : Type 0 where
  pub within : j ≤ length old
  pub long : length list ≡ length old
  pub done : digits n (length old) index ≡ digits n j rest ++ drop j list

pub split_none : (old : List ℕ) (n index : ℕ) → Splitting old n index old index (length old)
split_none old n index = record { within = le_refl (length old); long = refl; done = digits_start (digits n (length old) index) old }

module _ (old : List ℕ) (n index : ℕ) (list : List ℕ) (rest j : ℕ) (v : Splitting old n index list rest j) where
  pub split_all : j ≤ 0 → list ≡ digits n (length old) index
  split_all h = let z : j ≡ 0 = omega arith in sym (rw z at v.done ∙ digits_none n rest list)

  module _ (p : 0 < j) where
    -- a digit is below its base, which is no more than the squares of a board
    pub digit_fits : length old ≤ n → n ≤ 1024 → Fits w16 (rest % (n - (j - 1)))
    digit_fits h m =
        let d : rest % (n - (j - 1)) < n - (j - 1) = mod-lt rest (omega (arith, v.within)) in
        omega arith

    pub split_next : Splitting old n index (set list (j - 1) (rest % (n - (j - 1)))) (rest / (n - (j - 1))) (j - 1)
    split_next = record {
      within = omega (arith, v.within);
      long = simp length-set v.long;
      done = v.done ∙ digits_turn n j rest list p (omega (arith, v.within, v.long));
    }

-- ---- each digit is below its base

pub digit_below : (n k i j : ℕ) → k ≤ n → j < k → get_or (digits n k i) j 0 + j < n
unfolding digits
digit_below n zero i j h l = absurd (not-suc-le-zero l)
digit_below n (suc k) i j h l =
    let e = digits_length n k (i / (n - k)) in
    elim (compared j k) [
      | same q t ↦ rw (q, get_or_at (digits n k (i / (n - k))) (i % (n - k)) [] 0 k e) (let d : i % (n - k) < n - k = mod-lt i (omega arith) in omega arith)
      | other d t ↦
          let b : j < k = lt_of_le-ne (omega arith) d in
          rw (get_or-append (digits n k (i / (n - k))) (i % (n - k) ∷ []) 0 j (omega arith)) (digit_below n k (i / (n - k)) j (omega arith) b)
    ]
