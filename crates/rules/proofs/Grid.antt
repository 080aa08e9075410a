-- Places inside the grid and cells: one for one. Assumes nothing.
use Prim.Native.Nat.{ℕ, suc, ◌+◌, ◌*◌, ◌/◌, ◌%◌, ◌<◌, ◌≤◌, zero-le}
use native.Mathlib.Omega.{arith}
use native.Mathlib.Nat.{mul-le-mul_right}
use mathlib.Core.Path.{◌≡◌, sym, ap, ap₂, ◌∙◌}
use mathlib.Core.Bool.{true, false≢true}
use lib.Dec.{T, leb, ltb, eqb}
use lib.IntN.{ℤ, pos, negsuc, nat_abs}
use lib.Signed.{non_neg}
use borrow.Author.Tests.{le-leb, ltb-true, lt-ltb, eqb-true, eq-eqb}
use Rattle.lists.proofs.Tests.{and_left, and_right, both}
use Rattle.lists.proofs.Members.{agree}
use Rattle.boards.proofs.Squares.{row_of, col_of_lem}
use Rattle.rules.specs.Grid.{within, inside, same_z, same, cell_of}
use Rattle.rules.specs.declared.Place.{Place}

-- ---- one coordinate

pub within_plain : (g x : ℤ) → within g x ≡ true → T (non_neg x)
within_plain g (pos n) e = tt
within_plain g (negsuc n) e = absurd (false≢true e)

pub within_below : (g : ℕ) (x : ℤ) → within (pos g) x ≡ true → nat_abs x < g
within_below g (pos n) e = ltb-true n g (and_right (leb 0 n) (ltb n g) e)
within_below g (negsuc n) e = absurd (false≢true e)

pub within_pos : (g n : ℕ) → n < g → within (pos g) (pos n) ≡ true
within_pos g n h = both (le-leb 0 n zero-le) (lt-ltb n g h)

module _ (g : ℕ) (p : Place) (i : inside (pos g) p ≡ true) where
  pub row_in : within (pos g) p.row ≡ true
  row_in = and_left (within (pos g) p.row) (within (pos g) p.col) i

  pub col_in : within (pos g) p.col ≡ true
  col_in = and_right (within (pos g) p.row) (within (pos g) p.col) i

  pub row_plain : T (non_neg p.row)
  row_plain = within_plain (pos g) p.row row_in

  pub col_plain : T (non_neg p.col)
  col_plain = within_plain (pos g) p.col col_in

  pub row_below : nat_abs p.row < g
  row_below = within_below g p.row row_in

  pub col_below : nat_abs p.col < g
  col_below = within_below g p.col col_in

  pub cell_is : cell_of g p ≡ nat_abs p.row * g + nat_abs p.col
  cell_is = rw i

  pub cell_below : cell_of g p < g * g
  cell_below =
      let r = row_below in
      let k = col_below in
      let m : suc (nat_abs p.row) * g ≤ g * g = mul-le-mul_right g r in
      rw cell_is (omega (arith, m))

-- ---- one cell for each place inside

same_eq : (a b : ℤ) → same_z a b ≡ true → nat_abs a ≡ nat_abs b
same_eq (pos a) (pos b) t = eqb-true a b t
same_eq (pos a) (negsuc b) t = absurd (false≢true t)
same_eq (negsuc a) (pos b) t = absurd (false≢true t)
same_eq (negsuc a) (negsuc b) t = ap suc (eqb-true a b t)

eq_same : (a b : ℤ) → T (non_neg a) → T (non_neg b) → nat_abs a ≡ nat_abs b → same_z a b ≡ true
eq_same (pos a) (pos b) s t e = eq-eqb a b e
eq_same (pos a) (negsuc b) s t e = absurd t
eq_same (negsuc a) (pos b) s t e = absurd s
eq_same (negsuc a) (negsuc b) s t e = absurd s

module _ (g : ℕ) (p q : Place) (i : inside (pos g) p ≡ true) (j : inside (pos g) q ≡ true) where
  alike : same p q ≡ true → eqb (cell_of g p) (cell_of g q) ≡ true
  alike t =
      let r = same_eq p.row q.row (and_left (same_z p.row q.row) (same_z p.col q.col) t) in
      let k = same_eq p.col q.col (and_right (same_z p.row q.row) (same_z p.col q.col) t) in
      eq-eqb (cell_of g p) (cell_of g q) (cell_is g p i ∙ ap₂ (λ (x y : ℕ). x * g + y) r k ∙ sym (cell_is g q j))

  back : eqb (cell_of g p) (cell_of g q) ≡ true → same p q ≡ true
  back t =
      let e = sym (cell_is g p i) ∙ eqb-true (cell_of g p) (cell_of g q) t ∙ cell_is g q j in
      let r = sym (row_of g (nat_abs p.row) (nat_abs p.col) (col_below g p i)) ∙ ap (λ (k : ℕ). k / g) e ∙ row_of g (nat_abs q.row) (nat_abs q.col) (col_below g q j) in
      let k = sym (col_of_lem g (nat_abs p.row) (nat_abs p.col) (col_below g p i)) ∙ ap (λ (k : ℕ). k % g) e ∙ col_of_lem g (nat_abs q.row) (nat_abs q.col) (col_below g q j) in
      both (eq_same p.row q.row (row_plain g p i) (row_plain g q j) r) (eq_same p.col q.col (col_plain g p i) (col_plain g q j) k)

  -- two places inside are the same where their cells are
  pub same_cell : same p q ≡ eqb (cell_of g p) (cell_of g q)
  same_cell = agree (same p q) (eqb (cell_of g p) (cell_of g q)) alike back
