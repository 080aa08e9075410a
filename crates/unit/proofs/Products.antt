-- The rounded product of a count and a unit number lies between two whole numbers, both of which binary64 holds: rounding keeps the order and leaves
-- them where they are. Assumes nothing.
use Rattle.std.proofs.Common.{◌≡◌, ℕ, zero, suc, ◌+◌, ◌*◌, ◌/◌, ◌^◌, ◌<◌, ◌≤◌, Bool, true, false, ◌&&◌, ◌||◌, T, eqb, ltb, ℤ, pos, sym, refl, ◌∙◌, subst, true≢false, zero-le, le_trans, le_of_eq, le_of_lt, mul-le-mul_right, zero-lt-suc, mul_assoc, mul_comm, div-lt_iff_lt-mul, mul-pos, mul-zero, zero-mul, mul-one, div-mul-le_self, div-one, mul_left_comm, arith, eqb→eq, ltb→lt, lt→ltb}
use native.Mathlib.Nat.{mul-lt-mul_of_pos_left, zero-div}
use lib.Ieee.{Float, nan, inf, fin, Format, binary64, up, down, round, mul, of_int, le, lt, to_unsigned}
use lib.Ieee.Fits.{up_pos, down_pos, and_l, and_r}
use lib.Ieee.Exact.{HasValue}
use lib.Ieee.Nearest.{div_mono}
use lib.Ieee.Order.{round_mono, transfer}
use lib.Ieee.Positive.{num, den}
use lib.Ieee.Scale.{finite, round_same, round_val, round_under, grid}
use lib.Ieee.Back.{round_whole}
use Rattle.unit.specs.UnitNumber.{is_unit, whole_part}
use Rattle.unit.specs.Chosen.{Choosable}

-- ---- a unit number: a fraction below 1, or minus zero

data UnitNumber : Float → Type 0 where
  plus : (m : ℕ) (e : ℤ) → m * up e < down e → UnitNumber (fin false m e)
  minus : (e : ℤ) → UnitNumber (fin true 0 e)

less : (a b : ℕ) → a * 1 < 1 * b → a < b
less a b h = omega arith

none_of : (m : ℕ) (e : ℤ) → 0 * down e ≡ m * up e * 1 → m ≡ 0
none_of zero e h = refl
none_of (suc m) e h = absurd (clash (suc m * up e) (down e) (mul-pos (zero-lt-suc m) (up_pos e)) h)
  where
    clash : (a b : ℕ) → 0 < a → 0 * b ≡ a * 1 → ⊥
    clash a b p q = omega arith

unit_of : (u : Float) → T (is_unit u) → UnitNumber u
unfolding is_unit le lt
unit_of nan t = absurd t
unit_of (inf true) t = absurd t
unit_of (inf false) t = absurd t
unit_of (fin false m e) t = plus m e (less (m * up e) (down e) (ltb→lt (m * up e * 1) (1 * down e) (and_r (le (fin false 0 (pos 0)) (fin false m e)) (ltb (m * up e * 1) (1 * down e)) t)))
unit_of (fin true m e) t =
    let h : m ≡ 0 = none_of m e (eqb→eq (0 * down e) (m * up e * 1) (and_l (eqb (0 * down e) (m * up e * 1)) (eqb (0 * down e) 0) (and_l (le (fin false 0 (pos 0)) (fin true m e)) (lt (fin true m e) (fin false 1 (pos 0))) t))) in
    subst (λ (n : ℕ). UnitNumber (fin true n e)) (sym h) (minus e)

-- ---- the product, as one fraction

times : (P E c N D : ℕ) → P * 1 ≡ c * E → P * N * D ≡ c * N * (E * D)
times P E c N D h =
    let p : P ≡ c * E = sym (mul-one P) ∙ h in
    rw p (simp (mul_assoc, mul_comm, mul_left_comm))

mul_value : (f : Format) (x : Float) (c : ℕ) (s : Bool) (n : ℕ) (d : ℤ) → HasValue x false c 1 → mul f x (fin s n d) ≡ round f s (c * (n * up d)) (down d)
unfolding mul
mul_value f nan c s n d v = absurd v
mul_value f (inf t) c s n d v = absurd v
mul_value f (fin true m e) c s n d v = absurd (true≢false v.0)
mul_value f (fin false m e) c false n d v =
    round_same f false (m * up e * (n * up d)) (down e * down d) (c * (n * up d)) (down d) (mul-pos (down_pos e) (down_pos d)) (down_pos d) (times (m * up e) (down e) c (n * up d) (down d) v.1)
mul_value f (fin false m e) c true n d v =
    round_same f true (m * up e * (n * up d)) (down e * down d) (c * (n * up d)) (down d) (mul-pos (down_pos e) (down_pos d)) (down_pos d) (times (m * up e) (down e) c (n * up d) (down d) v.1)

-- 'Turning the count into binary64 loses nothing there'
pub count_value : (c : ℕ) → c ≤ 2 ^ 53 → HasValue (of_int binary64 (pos c)) false c 1
unfolding of_int
count_value c h = round_whole binary64 false c h

product_is : (c : ℕ) (s : Bool) (n : ℕ) (d : ℤ) → c ≤ 2 ^ 53 → mul binary64 (of_int binary64 (pos c)) (fin s n d) ≡ round binary64 s (c * (n * up d)) (down d)
product_is c s n d h = mul_value binary64 (of_int binary64 (pos c)) c s n d (count_value c h)

-- ---- between two whole numbers

lt_or_eq : (a b : ℕ) → T (ltb a b || (eqb a b && true)) → a ≤ b
lt_or_eq a b t = go (ltb a b) (eqb a b) (ltb→lt a b) (eqb→eq a b) t
  where
    go : (x y : Bool) → (T x → a < b) → (T y → a ≡ b) → T (x || (y && true)) → a ≤ b
    go true y f g u = le_of_lt (f tt)
    go false true f g u = le_of_eq (g tt)
    go false false f g u = absurd u

finite_between : (lo z hi : Float) (q r : ℕ) → HasValue lo false q 1 → HasValue hi false r 1 → T (le lo z) → T (le z hi) → T (finite z)
unfolding le
finite_between nan z hi q r v w h k = absurd v
finite_between (inf s) z hi q r v w h k = absurd v
finite_between (fin s m e) z nan q r v w h k = absurd w
finite_between (fin s m e) z (inf t) q r v w h k = absurd w
finite_between (fin s m e) nan (fin t n d) q r v w h k = absurd h
finite_between (fin s m e) (inf true) (fin t n d) q r v w h k = absurd h
finite_between (fin s m e) (inf false) (fin t n d) q r v w h k = absurd k
finite_between (fin s m e) (fin p i j) (fin t n d) q r v w h k = tt

-- what is known of the product, as the code and the theorem need it: q is the whole part of the exact one
pub record Product (c q : ℕ) (z : Float) : Type 0 where
  pub inside : q < c
  pub above : T (lt (fin true 1 (pos 0)) z)
  pub below : T (lt z (fin false 1 (pos 64)))
  pub least : q ≤ to_unsigned 64 z
  pub most : to_unsigned 64 z ≤ suc q

cut_to : (c : ℕ) (m : ℕ) (e : ℤ) (q : ℕ) → q < c → suc q ≤ 2 ^ 53 → q * down e ≤ m * up e * 1 → m * up e * 1 ≤ suc q * down e → Product c q (fin false m e)
unfolding lt to_unsigned
cut_to c m e q inside small h k =
    let a = m * up e in
    let d = down e in
    let dp : 0 < d = down_pos e in
    let lo : q ≤ a / d = subst (λ (x : ℕ). x ≤ a / d) (div-one q) (div_mono q 1 a d (zero-lt-suc 0) dp h) in
    let hi : a / d ≤ suc q = subst (λ (x : ℕ). a / d ≤ x) (div-one (suc q)) (div_mono a d (suc q) 1 dp (zero-lt-suc 0) k) in
    let top : suc q * d ≤ 2 ^ 53 * d = mul-le-mul_right d small in
    record {
      inside = omega arith;
      above = lt→ltb 0 (1 * d + a * 1) (omega arith);
      below = lt→ltb (a * 1) (1 * 2 ^ 64 * d) (omega arith);
      least = omega arith;
      most = omega arith;
    }

caught : (c : ℕ) (lo z hi : Float) (q a b : ℕ) → q < c → suc q ≤ 2 ^ 53 → HasValue lo false q 1 → HasValue z false a b → HasValue hi false (suc q) 1 → T (le lo z) → T (le z hi) → Product c q z
unfolding le
caught c nan z hi q a b inside small v x w h k = absurd v
caught c (inf s) z hi q a b inside small v x w h k = absurd v
caught c (fin true n d) z hi q a b inside small v x w h k = absurd (true≢false v.0)
caught c (fin false n d) nan hi q a b inside small v x w h k = absurd x
caught c (fin false n d) (inf s) hi q a b inside small v x w h k = absurd x
caught c (fin false n d) (fin true m e) hi q a b inside small v x w h k = absurd (true≢false x.0)
caught c (fin false n d) (fin false m e) nan q a b inside small v x w h k = absurd w
caught c (fin false n d) (fin false m e) (inf t) q a b inside small v x w h k = absurd w
caught c (fin false n d) (fin false m e) (fin true i j) q a b inside small v x w h k = absurd (true≢false w.0)
caught c (fin false n d) (fin false m e) (fin false i j) q a b inside small v x w h k =
    cut_to c m e q inside small
    (transfer q (m * up e) 1 (down e) (n * up d) (m * up e) (down d) (down e) (down_pos d) (down_pos e) (sym v.1) refl (lt_or_eq (n * up d * down e) (m * up e * down d) h))
    (transfer (m * up e) (suc q) (down e) 1 (m * up e) (i * up j) (down e) (down j) (down_pos e) (down_pos j) refl (sym w.1) (lt_or_eq (m * up e * down j) (i * up j * down e) k))

-- a / d below a whole number that binary64 holds, rounded
rounded : (a d c : ℕ) → 0 < d → a < c * d → c ≤ 2 ^ 53 → Product c (a / d) (round binary64 false a d)
rounded a d c dp h few =
    let q = a / d in
    let below : q < c = (div-lt_iff_lt-mul dp).1 h in
    let small : suc q ≤ 2 ^ 53 = le_trans below few in
    let lo = round binary64 false q 1 in
    let z = round binary64 false a d in
    let hi = round binary64 false (suc q) 1 in
    let v : HasValue lo false q 1 = round_whole binary64 false q (omega arith) in
    let w : HasValue hi false (suc q) 1 = round_whole binary64 false (suc q) small in
    let over : a < suc q * d = (div-lt_iff_lt-mul dp).0 (omega arith) in
    let h1 : T (le lo z) = round_mono binary64 q 1 a d (zero-lt-suc 0) dp (subst (λ (x : ℕ). q * d ≤ x) (sym (mul-one a)) (div-mul-le_self a d)) in
    let h2 : T (le z hi) = round_mono binary64 a d (suc q) 1 dp (zero-lt-suc 0) (subst (λ (x : ℕ). x ≤ suc q * d) (sym (mul-one a)) (le_of_lt over)) in
    caught c lo z hi q (grid binary64 a d) (2 ^ 1074) below small v (round_val binary64 a d (round_under binary64 a d (finite_between lo z hi q (suc q) v w h1 h2))) w h1 h2

-- minus zero
zero_value : (c : ℕ) (z : Float) → 0 < c → HasValue z true 0 1 → Product c 0 z
unfolding lt to_unsigned
zero_value c nan some v = absurd v
zero_value c (inf s) some v = absurd v
zero_value c (fin false m e) some v = absurd (true≢false (sym v.0))
zero_value c (fin true m e) some v =
    let d = down e in
    let dp : 0 < d = down_pos e in
    let z : m * up e * 1 ≡ 0 * d = v.1 in
    record {
      inside = omega arith;
      above = lt→ltb (m * up e * 1) (1 * d) (omega arith);
      below = lt→ltb 0 (m * up e * 1 + 1 * 2 ^ 64 * d) (omega arith);
      least = omega arith;
      most = omega arith;
    }

no_product : (c : ℕ) (e : ℤ) → c * (0 * up e) ≡ 0
no_product c e = simp (zero-mul, mul-zero)

-- ---- the whole of it
pub product : (c : ℕ) (u : Float) → Choosable c u → Product c (whole_part c u) (mul binary64 (of_int binary64 (pos c)) u)
unfolding whole_part
product c u q = go (unit_of u (subst T (sym q.unit) tt))
  where
    go : {u : Float} → UnitNumber u → Product c (c * num u / den u) (mul binary64 (of_int binary64 (pos c)) u)
    go (plus m e h) = rw (product_is c false m e q.few) (rounded (c * (m * up e)) (down e) c (down_pos e) (mul-lt-mul_of_pos_left h q.some) q.few)
    go (minus e) =
        let same : round binary64 true 0 (down e) ≡ round binary64 true 0 1 = round_same binary64 true 0 (down e) 0 1 (down_pos e) (zero-lt-suc 0) (simp zero-mul) in
        rw (product_is c true 0 e q.few, no_product c e, same, zero-div) (zero_value c (round binary64 true 0 1) q.some (round_whole binary64 true 0 zero-le))
