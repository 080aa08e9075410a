-- A book has one form only: one whose contents are accepted is bound of its own pages. Assumes nothing.
use Prim.Native.Nat.{ℕ, zero, suc, ◌+◌, ◌*◌, ◌-◌, ◌/◌, ◌%◌, ◌<◌, ◌≤◌}
use native.Mathlib.Omega.{arith}
use mathlib.Core.Path.{◌≡◌, refl, sym, ap, ap₂, ◌∙◌}
use mathlib.Core.Bool.{false, not, ◌&&◌, ◌||◌}
use mathlib.Core.List.{List, [], ◌∷◌, ◌++◌}
use lib.Dec.{ltb, eqb}
use lib.ListN.{length, take, drop, length-drop, take-append-drop, drop_of_length-le}
use lib.Seq.{get_or-take, length-take-le, take-add, take_all, drop-drop, drop-cons}
use borrow.Author.Tests.{lt-ltb, le-ltb, eq-eqb, eqb-true, ltb-false, not-false}
use Rattle.boards.specs.Boards.{Under}
use Rattle.lists.specs.Choice.{◌if◌else◌, bit}
use Rattle.lists.specs.Below.{each_below, concat_below}
use Rattle.lists.proofs.Below.{each_back, each_ext, concat_ext}
use Rattle.lists.proofs.Tests.{compared, same, other, or_false_left, or_false_right}
use Rattle.rules.specs.Image.{word}
use Rattle.contents.specs.Settings.{pair_words, four_words, four_at, limit_words, limit_of, limit_at, limit_off, setting_words, setting_in}
use Rattle.contents.specs.Contents.{front, start_of, starts_of, contents_of, pages_in, start_in, end_in}
use Rattle.book.specs.Book.{book_of, page_in}
use Rattle.contents.specs.Accepted.{Accepted}
use Rattle.contents.proofs.Finding.{ends_is}

-- ---- words of 16 bits and the numbers that they tell

pub pair_words_lem : (x y : ℕ) → x < 65536 → pair_words (x + 65536 * y) ≡ x ∷ y ∷ []
pair_words_lem x y h =
    let low : (x + 65536 * y) % 65536 ≡ x = omega arith in
    let high : (x + 65536 * y) / 65536 ≡ y = omega arith in
    rw (low, high)

four_words_lem : (x y z u : ℕ) → x < 65536 → y < 65536 → z < 65536 → four_words (x + 65536 * y + 4294967296 * (z + 65536 * u)) ≡ x ∷ y ∷ z ∷ u ∷ []
four_words_lem x y z u a b c =
    let k = x + 65536 * y + 4294967296 * (z + 65536 * u) in
    let low : k % 4294967296 ≡ x + 65536 * y = omega arith in
    let high : k / 4294967296 ≡ z + 65536 * u = omega arith in
    rw (low, high) (ap₂ (λ (v w : List ℕ). v ++ w) (pair_words_lem x y a) (pair_words_lem z u c))

-- four words that tell 0 are 0
zero_words : (x y z u : ℕ) → x + 65536 * y + 4294967296 * (z + 65536 * u) ≡ 0 → 0 ∷ 0 ∷ 0 ∷ 0 ∷ [] ≡ x ∷ y ∷ z ∷ u ∷ []
zero_words x y z u e =
    let a : x ≡ 0 = omega arith in
    let b : y ≡ 0 = omega arith in
    let c : z ≡ 0 = omega arith in
    let d : u ≡ 0 = omega arith in
    rw (a, b, c, d)

limit_by : (w n : ℕ) (words : List ℕ) → (ltb 1 w || (eqb w 0 && not (eqb n 0))) ≡ false → four_words n ≡ words → (n ≡ 0 → 0 ∷ 0 ∷ 0 ∷ 0 ∷ [] ≡ words) → limit_words (limit_of (eqb w 1) n) ≡ w ∷ words
limit_by w n words off four none = elim (compared w 1) [
  | same e t ↦ rw (t, e) (ap (λ (l : List ℕ). 1 ∷ l) four)
  | other m t ↦
      let z : w ≡ 0 = omega (arith, ltb-false 1 w (or_false_left _ _ off)) in
      let u : n ≡ 0 = eqb-true n 0 (not-false _ (rw (eq-eqb w 0 z) at (or_false_right (ltb 1 w) _ off))) in
      rw (t, z) (ap (λ (l : List ℕ). 0 ∷ l) (none u))
]

module _ (b : List ℕ) (words : Under 65536 b) (a : Accepted b (length b)) where
  abbrev p : ℕ
  p = pages_in b

  abbrev w : ℕ → ℕ
  w k = word b k

  limit_words_lem : (k : ℕ) → limit_off b k ≡ false → limit_words (limit_at b k) ≡ w k ∷ w (1 + k) ∷ w (1 + (1 + k)) ∷ w (2 + (1 + k)) ∷ w (1 + (2 + (1 + k))) ∷ []
  limit_words_lem k off =
      let x = w (1 + k) in
      let y = w (1 + (1 + k)) in
      let z = w (2 + (1 + k)) in
      let u = w (1 + (2 + (1 + k))) in
      limit_by (w k) (four_at b (1 + k)) (x ∷ y ∷ z ∷ u ∷ []) off (four_words_lem x y z u (words (1 + k)) (words (1 + (1 + k))) (words (2 + (1 + k)))) (zero_words x y z u)

  flag_word : (x : ℕ) → x ≤ 1 → bit (eqb x 1) ≡ x
  flag_word x h = elim (compared x 1) [ same e t ↦ rw (t, e) | other n t ↦ rw t (omega arith) ]

  -- ---- the first 17 words

  head_words : 1 ∷ (setting_words (setting_in b) ++ (p ∷ [])) ≡ each_below 17 w
  unfolding setting_in each_below
  head_words =
      ap₂
      (λ (l t : List ℕ). 1 ∷ ((w 1 ∷ w 2 ∷ w 3 ∷ bit (eqb (w 4) 1) ∷ (l ++ (w 10 ∷ t))) ++ (p ∷ [])))
      (limit_words_lem 5 a.lead_on)
      (limit_words_lem 11 a.ticks_on)
      ∙ rw (a.one, flag_word (w 4) a.yes_no)

  pub head_is : 1 ∷ (setting_words (setting_in b) ++ (p ∷ [])) ≡ take 17 b
  head_is =
      let t = take 17 b in
      let long : length t ≡ 17 = length-take-le 17 b a.long in
      head_words
      ∙ each_ext 17 w (word t) (λ i h. sym (get_or-take 17 b i 0 h))
      ∙ ap (λ (n : ℕ). each_below n (word t)) (sym long)
      ∙ each_back t 0

  -- ---- the starts

  -- two words of a list
  two : (l : List ℕ) (k : ℕ) → 1 + k < length l → take 2 (drop k l) ≡ word l k ∷ word l (1 + k) ∷ []
  two l k h =
      let e : 1 + k ≡ suc k = omega arith in
      let q : suc k < length l = omega arith in
      rw (drop-cons l k 0 (omega arith), drop-cons l (suc k) 0 q, e)

  starts_are : (i : ℕ) → i ≤ p → concat_below i (λ j. pair_words (start_in b j)) ≡ take (2 * i) (drop 17 b)
  unfolding concat_below
  starts_are zero h = refl
  starts_are (suc i) h =
      let k = 17 + 2 * i in
      let e : 2 * suc i ≡ 2 * i + 2 = omega arith in
      let pair : pair_words (start_in b i) ≡ take 2 (drop k b) = pair_words_lem (w k) (w (1 + k)) (words k) ∙ sym (two b k (omega (arith, a.contents_in))) in
      rw (e, pair) (ap (λ (l : List ℕ). l ++ take 2 (drop k b)) (starts_are i (omega arith)) ∙ ap (λ (l : List ℕ). take (2 * i) (drop 17 b) ++ take 2 l) (sym (drop-drop (2 * i) 17 b)) ∙ sym (take-add (2 * i) 2 (drop 17 b)))

  -- ---- the pages: edge i is the start of page i, or the book's end

  abbrev edge : ℕ → ℕ
  edge i = start_in b i if ltb i p else length b

  abbrev body : List ℕ
  body = drop (front p) b

  edge_start : (i : ℕ) → i < p → edge i ≡ start_in b i
  edge_start i h = rw (lt-ltb i p h)

  edge_first : 0 < p → edge 0 ≡ front p
  edge_first h = edge_start 0 h ∙ a.after_contents h

  edge_end : (i : ℕ) → edge (suc i) ≡ end_in b (length b) i
  edge_end i = let e : suc i ≡ 1 + i = omega arith in rw e

  edge_low : (i : ℕ) → 0 < p → i ≤ p → front p ≤ edge i
  edge_low zero some h = omega (arith, edge_first some)
  edge_low (suc i) some h =
      let z = ends_is b (length b) a i h in
      omega (arith, edge_low i some (omega arith), edge_end i, edge_start i h, z.above)

  pages_are : (i : ℕ) → 0 < p → i ≤ p → concat_below i (page_in b) ≡ take (edge i - front p) body
  unfolding concat_below page_in
  pages_are zero some h = let e : edge 0 - front p ≡ 0 = omega (arith, edge_first some) in rw e
  pages_are (suc i) some h =
      let m = edge i - front p in
      let n = end_in b (length b) i - start_in b i in
      let z = ends_is b (length b) a i h in
      let e : edge (suc i) - front p ≡ m + n = omega (arith, edge_end i, edge_start i h, edge_low i some (omega arith), z.above) in
      let q : start_in b i ≡ front p + m = omega (arith, edge_start i h, edge_low i some (omega arith)) in
      rw e (ap (λ (l : List ℕ). l ++ take n (drop (start_in b i) b)) (pages_are i some (omega arith))
      ∙ ap (λ (k : ℕ). take m body ++ take n (drop k b)) q
      ∙ ap (λ (l : List ℕ). take m body ++ take n l) (sym (drop-drop m (front p) b))
      ∙ sym (take-add m n body))

  edge_last : edge p ≡ length b
  edge_last = rw (le-ltb p p (omega arith))

  pages_none : p ≡ 0 → concat_below p (page_in b) ≡ body
  unfolding concat_below
  pages_none e = rw e (sym (drop_of_length-le b {i = 17} (a.none_left e)))

  pub pages_body : concat_below p (page_in b) ≡ body
  pages_body = elim (compared p 0) [
    | same e t ↦ pages_none e
    | other n t ↦ pages_are p (omega arith) (omega arith) ∙ take_all (edge p - front p) body (omega (arith, edge_last, length-drop (front p) b))
  ]

  -- a start is where the pages before it end
  start_is : (i : ℕ) → i < p → start_of p (page_in b) i ≡ start_in b i
  start_is i h =
      let q = ap length (pages_are i (omega arith) (omega arith)) in
      let low = edge_low i (omega arith) (omega arith) in
      let n : length (take (edge i - front p) body) ≡ edge i - front p = length-take-le (edge i - front p) body (omega (arith, edge_start i h, length-drop (front p) b, a.starts_in i h)) in
      omega (arith, q, n, low, edge_start i h)

  starts_body : starts_of p (page_in b) ≡ take (2 * p) (drop 17 b)
  unfolding starts_of
  starts_body =
      concat_ext p (λ i. pair_words (start_of p (page_in b) i)) (λ i. pair_words (start_in b i)) (λ i h. ap pair_words (start_is i h))
      ∙ starts_are p (omega arith)

  pub one_form : book_of (setting_in b) p (page_in b) ≡ b
  unfolding book_of contents_of
  one_form =
      let e : front p ≡ 17 + 2 * p = refl in
      ap (λ (l : List ℕ). (l ++ starts_of p (page_in b)) ++ concat_below p (page_in b)) head_is
      ∙ ap₂ (λ (l r : List ℕ). (take 17 b ++ l) ++ r) starts_body pages_body
      ∙ ap (λ (l : List ℕ). l ++ body) (sym (take-add 17 (2 * p) b))
      ∙ take-append-drop (front p) b
