-- A well-formed image is the image of its state. Assumes nothing.
use Prim.Native.Nat.{ℕ, zero, suc, ◌+◌, ◌*◌, ◌<◌, ◌≤◌}
use native.Mathlib.Nat.{le_refl}
use native.Mathlib.Omega.{arith}
use mathlib.Core.Path.{◌≡◌, refl, sym, ap, ap₂, ◌∙◌}
use mathlib.Core.Bool.{true}
use mathlib.Core.List.{List, [], ◌∷◌, ◌++◌}
use lib.Dec.{eqb}
use lib.ListN.{length, take, drop, take-append-drop}
use lib.Seq.{take-add, drop-drop, drop-cons}
use Rattle.lists.specs.Choice.{bit}
use Rattle.lists.specs.Below.{concat_below, sum_below}
use Rattle.lists.proofs.Below.{concat_long, sum_ext}
use Rattle.rules.specs.Headings.{number_of, heading_of}
use Rattle.rules.specs.State.{Snake}
use Rattle.rules.specs.Image.{front, body_of, start_of, record_of, contents_of, image_of, word, snakes_in, side_in, due_in, birth_in, start_at, length_at, heading_at, alive_at, state_of, well_formed}
use Rattle.rules.specs.Facts.{Sound}
use Rattle.rules.proofs.Facts.{sound}
use Rattle.rules.proofs.Parts.{state_count, state_snake, state_body, body_long, food_long}

number_back : (k : ℕ) → k ≤ 3 → number_of (heading_of k) ≡ k
number_back zero h = refl
number_back (suc zero) h = refl
number_back (suc (suc zero)) h = refl
number_back (suc (suc (suc zero))) h = refl
number_back (suc (suc (suc (suc k)))) h = absurd (omega arith)

bit_of_lem : (k : ℕ) → k ≤ 1 → bit (eqb k 1) ≡ k
bit_of_lem zero h = refl
bit_of_lem (suc zero) h = refl
bit_of_lem (suc (suc k)) h = absurd (omega arith)

-- k words from index a on
abbrev words_from : List ℕ → ℕ → ℕ → List ℕ
words_from w a zero = []
words_from w a (suc k) = word w a ∷ words_from w (suc a) k

words_are : (w : List ℕ) (a k : ℕ) → a + k ≤ length w → words_from w a k ≡ take k (drop a w)
words_are w a zero h = refl
words_are w a (suc k) h =
    ap (λ (l : List ℕ). word w a ∷ l) (words_are w (suc a) k (omega arith)) ∙ sym (ap (λ (l : List ℕ). take (suc k) l) (drop-cons w a 0 (omega arith)))

module _ (w : List ℕ) (ok : Sound w) where
  abbrev n : ℕ
  n = snakes_in w

  pub bodies_long : (i : ℕ) → i ≤ n → length (concat_below i (body_of (state_of w))) ≡ sum_below i (length_at w)
  bodies_long i h =
      concat_long i (body_of (state_of w)) ∙ sum_ext i (λ j. length (body_of (state_of w) j)) (length_at w) (λ j l. ap length (state_body w j (omega arith)) ∙ body_long w ok j (omega arith))

  pub start_at_lem : (i : ℕ) → i < n → start_of (state_of w) i ≡ start_at w i
  start_at_lem i h =
      ap₂ (λ (m k : ℕ). front m + k) (state_count w) (bodies_long i (omega arith)) ∙ sym (ok.starts i h)

  -- the four words of snake i
  record_is : (i : ℕ) → i < n → record_of (state_of w) i ≡ take 4 (drop (5 + 4 * i) w)
  record_is i h =
      let b = 5 + 4 * i in
      let z = state_snake w i h in
      let e : length_at w i ≡ word w (suc b) = ap (word w) (omega arith) in
      let f : heading_at w i ≡ word w (suc (suc b)) = ap (word w) (omega arith) in
      let g : alive_at w i ≡ word w (suc (suc (suc b))) = ap (word w) (omega arith) in
      (λ j. start_at_lem i h j
      ∷ (ap length (state_body w i h) ∙ body_long w ok i h ∙ e) j
      ∷ (ap (λ (z : Snake). number_of z.heading) z ∙ number_back (heading_at w i) (ok.headings i h) ∙ f) j
      ∷ (ap (λ (z : Snake). bit z.alive) z ∙ bit_of_lem (alive_at w i) (ok.flags i h) ∙ g) j
      ∷ [])
      ∙ words_are w b 4 (omega (arith, ok.records_in))

  records_are : (i : ℕ) → i ≤ n → concat_below i (record_of (state_of w)) ≡ take (4 * i) (drop 5 w)
  unfolding concat_below
  records_are zero h = refl
  records_are (suc i) h =
      let e : 4 * i + 4 ≡ 4 * suc i = omega arith in
      ap₂ (λ (x y : List ℕ). x ++ y) (records_are i (omega arith)) (record_is i h ∙ ap (take 4) (sym (drop-drop (4 * i) 5 w)))
      ∙ sym (take-add (4 * i) 4 (drop 5 w))
      ∙ ap (λ (k : ℕ). take k (drop 5 w)) e

  bodies_are : (i : ℕ) → i ≤ n → concat_below i (body_of (state_of w)) ≡ take (sum_below i (length_at w)) (drop (front n) w)
  unfolding concat_below sum_below
  bodies_are zero h = refl
  bodies_are (suc i) h =
      let k = sum_below i (length_at w) in
      ap₂ (λ (x y : List ℕ). x ++ y) (bodies_are i (omega arith))
      (state_body w i h ∙ ap (λ (a : ℕ). take (length_at w i) (drop a w)) (ok.starts i h) ∙ ap (take (length_at w i)) (sym (drop-drop k (front n) w)))
      ∙ sym (take-add k (length_at w i) (drop (front n) w))

  contents_are : contents_of (state_of w) ≡ take 5 w
  unfolding state_of
  contents_are =
      (λ j. state_count w j ∷ side_in w ∷ due_in w ∷ bit_of_lem (birth_in w) ok.birth_max j ∷ food_long w ok j ∷ []) ∙ words_are w 0 5 ok.five

  food_are : concat_below n (body_of (state_of w)) ++ (state_of w).food ≡ drop (front n) w
  unfolding state_of
  food_are =
      let k = sum_below n (length_at w) in
      ap₂ (λ (x y : List ℕ). x ++ y) (bodies_are n (le_refl n)) (sym (drop-drop k (front n) w)) ∙ take-append-drop k (drop (front n) w)

  rest_are : concat_below n (record_of (state_of w)) ++ (concat_below n (body_of (state_of w)) ++ (state_of w).food) ≡ drop 5 w
  rest_are =
      ap₂ (λ (x y : List ℕ). x ++ y) (records_are n (le_refl n)) (food_are ∙ sym (drop-drop (4 * n) 5 w)) ∙ take-append-drop (4 * n) (drop 5 w)

  pub image_of_lem : image_of (state_of w) ≡ w
  unfolding image_of
  image_of_lem =
      let s = state_of w in
      ap₂ (λ (c : List ℕ) (k : ℕ). c ++ (concat_below k (record_of s) ++ (concat_below k (body_of s) ++ s.food))) contents_are (state_count w)
      ∙ ap (λ (l : List ℕ). take 5 w ++ l) rest_are
      ∙ take-append-drop 5 w

pub image_back : (w : List ℕ) → well_formed w ≡ true → image_of (state_of w) ≡ w
image_back w t = image_of_lem w (sound w t)
