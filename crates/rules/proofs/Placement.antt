-- Laws of a trace: what its next place is, that it stays inside, that a shorter one is its first part, that it is no longer than asked for and never long. Assumes nothing.
use Prim.Native.Nat.{ℕ, zero, suc, ◌+◌, ◌*◌, ◌-◌, ◌≤◌, zero-le, suc-le-suc}
use native.Mathlib.Nat.{not-suc-le-zero, le_of_suc-le-suc}
use native.Mathlib.Omega.{arith}
use mathlib.Core.Path.{◌≡◌, refl, ap}
use mathlib.Core.Bool.{true, false, false≢true}
use mathlib.Core.Logic.{inl, inr}
use mathlib.Core.List.{List, [], ◌∷◌}
use lib.IntN.{ℤ, pos, negsuc, suc_ℤ, pred_ℤ, nat_abs}
use lib.ListN.{length, take}
use Rattle.lists.specs.Lists.{all}
use Rattle.lists.proofs.Tests.{tell, both}
use Rattle.rules.specs.Grid.{ahead, within, inside}
use Rattle.rules.specs.Placement.{unblocked, trail, traced}
use Rattle.rules.specs.declared.Place.{Place}
use Rattle.rules.specs.declared.Heading.{Heading}
use Rattle.rules.specs.declared.Heading.TheVariants.{Up, Right, Down, Left}
use Rattle.rules.proofs.Grid.{within_below, row_in, col_in}

-- ---- the next direction, the next place

module _ (g : ℤ) where
  pub none_left : (p : Place) → unblocked g [] p ≡ []
  unfolding unblocked
  none_left p = refl

  pub open_first : (d : Heading) (ds : List Heading) (p : Place) → inside g (ahead d p) ≡ true → unblocked g (d ∷ ds) p ≡ d ∷ ds
  unfolding unblocked
  open_first d ds p e = rw e

  pub shut_first : (d : Heading) (ds : List Heading) (p : Place) → inside g (ahead d p) ≡ false → unblocked g (d ∷ ds) p ≡ unblocked g ds p
  unfolding unblocked
  shut_first d ds p e = rw e

  pub trail_done : (ds : List Heading) (p : Place) → trail 0 g ds p ≡ []
  unfolding trail
  trail_done ds p = refl

  pub trail_shut : (k : ℕ) (p : Place) → trail k g [] p ≡ []
  unfolding trail
  trail_shut zero p = refl
  trail_shut (suc k) p = refl

  pub trail_next : (k : ℕ) (d : Heading) (ds : List Heading) (p : Place)
      → trail (suc k) g (d ∷ ds) p ≡ ahead d p ∷ trail k g (unblocked g (d ∷ ds) (ahead d p)) (ahead d p)
  unfolding trail
  trail_next k d ds p = refl

  pub trail_short : (k : ℕ) (ds : List Heading) (p : Place) → length (trail k g ds p) ≤ k
  unfolding trail
  trail_short zero ds p = zero-le
  trail_short (suc k) [] p = zero-le
  trail_short (suc k) (d ∷ ds) p = suc-le-suc (trail_short k (unblocked g (d ∷ ds) (ahead d p)) (ahead d p))

  pub traced_short : (ds : List Heading) (k : ℕ) (p : Place) → 1 ≤ k → length (traced g ds k p) ≤ k
  traced_short ds k p h = let t = trail_short (k - 1) (unblocked g ds p) p in omega arith

  -- ---- a shorter trace is the first part of a longer one

  pub trail_take : (j k : ℕ) (ds : List Heading) (p : Place) → j ≤ k → trail j g ds p ≡ take j (trail k g ds p)
  unfolding trail
  trail_take zero k ds p h = refl
  trail_take (suc j) zero ds p h = absurd (not-suc-le-zero h)
  trail_take (suc j) (suc k) [] p h = refl
  trail_take (suc j) (suc k) (d ∷ ds) p h =
      ap (λ (l : List Place). ahead d p ∷ l) (trail_take j k (unblocked g (d ∷ ds) (ahead d p)) (ahead d p) (le_of_suc-le-suc h))

  -- ---- a trace stays inside

  -- of the directions that are left the first is open
  data Opened (p : Place) : List Heading → Type 0 where
    shut : Opened p []
    clear : {d : Heading} {ds : List Heading} → inside g (ahead d p) ≡ true → Opened p (d ∷ ds)

  opened : (ds : List Heading) (p : Place) → Opened p (unblocked g ds p)
  unfolding unblocked
  opened [] p = shut
  opened (d ∷ ds) p = elim (tell (inside g (ahead d p))) [
    | inl t ↦ rw t (clear t)
    | inr f ↦ rw f (opened ds p)
  ]

  walked_inside : (k : ℕ) (ds : List Heading) (p : Place) → Opened p ds → all (inside g) (trail k g ds p) ≡ true
  unfolding trail all
  walked_inside zero ds p o = refl
  walked_inside (suc k) [] p o = refl
  walked_inside (suc k) (d ∷ ds) p (clear e) = both e (walked_inside k (unblocked g (d ∷ ds) (ahead d p)) (ahead d p) (opened (d ∷ ds) (ahead d p)))

  pub traced_inside : (ds : List Heading) (k : ℕ) (p : Place) → inside g p ≡ true → all (inside g) (traced g ds k p) ≡ true
  unfolding all
  traced_inside ds k p i = both i (walked_inside (k - 1) (unblocked g ds p) p (opened ds p))

-- ---- a trace is never long

-- how many places lie ahead of an inside place
dist : ℕ → Heading → Place → ℕ
dist g Up p = nat_abs p.row
dist g Right p = g - 1 - nat_abs p.col
dist g Down p = g - 1 - nat_abs p.row
dist g Left p = nat_abs p.col

less_one : (g : ℕ) (x : ℤ) → within (pos g) x ≡ true → within (pos g) (pred_ℤ x) ≡ true → suc (nat_abs (pred_ℤ x)) ≤ nat_abs x
less_one g (pos zero) h k = absurd (false≢true k)
less_one g (pos (suc n)) h k = omega arith
less_one g (negsuc n) h k = absurd (false≢true h)

more_one : (g : ℕ) (x : ℤ) → within (pos g) x ≡ true → within (pos g) (suc_ℤ x) ≡ true → suc (g - 1 - nat_abs (suc_ℤ x)) ≤ g - 1 - nat_abs x
more_one g (pos n) h k = let l = within_below g (pos (suc n)) k in omega arith
more_one g (negsuc n) h k = absurd (false≢true h)

module _ (g : ℕ) (small : g ≤ 32) where
  nearer : (d : Heading) (p : Place) → inside (pos g) p ≡ true → inside (pos g) (ahead d p) ≡ true → suc (dist g d (ahead d p)) ≤ dist g d p
  unfolding dist
  nearer Up p i j = less_one g p.row (row_in g p i) (row_in g (ahead Up p) j)
  nearer Right p i j = more_one g p.col (col_in g p i) (col_in g (ahead Right p) j)
  nearer Down p i j = more_one g p.row (row_in g p i) (row_in g (ahead Down p) j)
  nearer Left p i j = less_one g p.col (col_in g p i) (col_in g (ahead Left p) j)

  dist_max : (d : Heading) (p : Place) → inside (pos g) p ≡ true → dist g d p ≤ 31
  unfolding dist
  dist_max Up p i = let l = within_below g p.row (row_in g p i) in omega arith
  dist_max Right p i = omega arith
  dist_max Down p i = omega arith
  dist_max Left p i = let l = within_below g p.col (col_in g p i) in omega arith

  -- the places ahead, and 31 for each direction after the first
  room : List Heading → Place → ℕ
  room [] p = 0
  room (d ∷ ds) p = dist g d p + 31 * length ds

  room_max : (ds : List Heading) (p : Place) → inside (pos g) p ≡ true → room ds p ≤ 31 * length ds
  unfolding room
  room_max [] p i = zero-le
  room_max (d ∷ ds) p i = let l = dist_max d p i in omega arith

  further : (k : ℕ) → ((ds : List Heading) (p : Place) → inside (pos g) p ≡ true → length (trail k (pos g) (unblocked (pos g) ds p) p) ≤ room ds p)
      → (ds : List Heading) (p : Place) → inside (pos g) p ≡ true → length (trail (suc k) (pos g) (unblocked (pos g) ds p) p) ≤ room ds p
  unfolding room
  further k ih [] p i = rw (none_left (pos g) p, trail_shut (pos g) (suc k) p) zero-le
  further k ih (d ∷ ds) p i = elim (tell (inside (pos g) (ahead d p))) [
    | inl t ↦
        let l = ih (d ∷ ds) (ahead d p) t in
        let n = nearer d p i t in
        rw (open_first (pos g) d ds p t, trail_next (pos g) k d ds p) (omega arith)
    | inr f ↦
        let l = further k ih ds p i in
        let m = room_max ds p i in
        rw (shut_first (pos g) d ds p f) (omega arith)
  ]

  reach : (k : ℕ) (ds : List Heading) (p : Place) → inside (pos g) p ≡ true → length (trail k (pos g) (unblocked (pos g) ds p) p) ≤ room ds p
  reach zero ds p i = rw (trail_done (pos g) (unblocked (pos g) ds p) p) zero-le
  reach (suc k) ds p i = further k (reach k) ds p i

  pub traced_reach : (ds : List Heading) (k : ℕ) (p : Place) → inside (pos g) p ≡ true → length (traced (pos g) ds k p) ≤ 1 + 31 * length ds
  traced_reach ds k p i =
      let l = reach (k - 1) ds p i in
      let m = room_max ds p i in
      omega arith
