-- 'Food due = apples eaten': the surviving eaters are as many as the apples that are gone. Assumes nothing.
use Rattle.std.specs.Prelude.{Option, Some, None}
use Prim.Native.Nat.{ℕ, zero, suc, ◌+◌, ◌<◌}
use native.Mathlib.Nat.{le_refl}
use native.Mathlib.Omega.{arith}
use mathlib.Core.Path.{◌≡◌, refl, sym, ap, ◌∙◌}
use mathlib.Core.Logic.{⊎_elim}
use mathlib.Core.Bool.{Bool, true, false, not, ◌&&◌, ◌||◌, true≢false, false≢true}
use mathlib.Core.List.{List}
use lib.Dec.{eqb}
use lib.ListN.{length, get_or}
use lib.IntN.{pos}
use borrow.Author.Tests.{eq-eqb, ne_eqb, not-true}
use Rattle.lists.specs.Choice.{◌if◌else◌, bit}
use Rattle.lists.specs.Below.{some_below, count_below, each_below}
use Rattle.lists.specs.Lists.{keep, member, distinct, without, ascending}
use Rattle.lists.proofs.Tests.{tell, and_left, and_right}
use Rattle.lists.proofs.Below.{some_false, some_found, each_at}
use Rattle.lists.proofs.Order.{ascending_distinct}
use Rattle.lists.proofs.Blocks.{keep_without, keep_ext}
use Rattle.lists.proofs.Shorter.{keep_all}
use Rattle.lists.proofs.Members.{not_in_without}
use Rattle.rules.specs.Grid.{inside, same, cell_of}
use Rattle.rules.specs.State.{Snake, State, nobody, count, snake_of}
use Rattle.rules.specs.Events.{dies}
use Rattle.rules.specs.Step.{Moved, stays, on_food, goes, moved_of, another, on_body, cause_of, ate_now, eaten_by, transition_of, stepped}
use Rattle.rules.specs.declared.Heading.{Heading}
use Rattle.rules.specs.declared.Place.{Place}
use Rattle.rules.specs.declared.Setting.{Setting}
use Rattle.rules.specs.declared.Cause.{Cause}
use Rattle.rules.specs.declared.Cause.TheVariants.{Wall, SelfBody, OppBody, HeadOn}
use Rattle.rules.proofs.Grid.{same_cell}
use Rattle.rules.proofs.StepFacts.{survivor_clear}

skipped : (b t z : Bool) → t ≡ false → not (b || (t && z)) ≡ not b
skipped true t z e = refl
skipped false t z e = rw e

hit : (b t z : Bool) → t ≡ true → z ≡ true → not (b || (t && z)) ≡ false
hit true t z e f = refl
hit false t z e f = rw (e, f)

missed : (b t z : Bool) → z ≡ false → not (b || (t && z)) ≡ not b
missed true t z e = refl
missed false true z e = rw e
missed false false z e = refl

not_eaten : (t z : Bool) → (t ≡ true → z ≡ false) → (t && z) ≡ false
not_eaten true z h = h refl
not_eaten false z h = refl

module _ (l : List ℕ) (d : distinct l ≡ true) (x : ℕ → ℕ) (e : ℕ → Bool) where
  abbrev left : ℕ → ℕ → Bool
  left n a = not (eaten_by n x e a)

  -- one snake more
  next_gone : (n : ℕ) → (e n ≡ true → member (x n) l ≡ true) → ((i : ℕ) → i < n → e i ≡ true → e n ≡ true → x n ≡ x i → ⊥)
      → length (keep (left n) l) + count_below n e ≡ length l → length (keep (left (suc n)) l) + count_below (suc n) e ≡ length l
  unfolding some_below count_below
  next_gone n on apart h = ⊎_elim
      (λ t.
      let c = x n in
      let new : left n c ≡ true = ap not (some_false (λ i. e i && eqb c (x i)) n (λ i k. not_eaten (e i) (eqb c (x i)) (λ u. ne_eqb c (x i) (apart i k u t)))) in
      let a = keep_without (left n) c l (on t) in
      let b = keep_without (left (suc n)) c l (on t) in
      let z : left (suc n) c ≡ false = hit (eaten_by n x e c) (e n) (eqb c (x n)) t (eq-eqb c c refl) in
      let q : keep (left (suc n)) (without c l) ≡ keep (left n) (without c l) =
      keep_ext (left (suc n)) (left n) (without c l) (λ y m. missed (eaten_by n x e y) (e n) (eqb y (x n)) (ne_eqb y c (λ k. not_in_without c l d (rw k at m)))) in
      let q' : length (keep (left (suc n)) (without c l)) ≡ length (keep (left n) (without c l)) = ap (λ (k : List ℕ). length k) q in
      let a' : length (keep (left n) l) ≡ 1 + length (keep (left n) (without c l)) = a ∙ ap (λ (k : Bool). bit k + length (keep (left n) (without c l))) new in
      let b' : length (keep (left (suc n)) l) ≡ 0 + length (keep (left (suc n)) (without c l)) = b ∙ ap (λ (k : Bool). bit k + length (keep (left (suc n)) (without c l))) z in
      let u : bit (e n) ≡ 1 = ap bit t in
      omega (arith, a', b', q', u, h))
      (λ f.
      let q : length (keep (left (suc n)) l) ≡ length (keep (left n) l) =
      ap (λ (k : List ℕ). length k) (keep_ext (left (suc n)) (left n) l (λ y _. skipped (eaten_by n x e y) (e n) (eqb y (x n)) f)) in
      let u : bit (e n) ≡ 0 = ap bit f in
      omega (arith, q, u, h))
      (tell (e n))

  gone : (n : ℕ) → ((i : ℕ) → i < n → e i ≡ true → member (x i) l ≡ true) → ((i j : ℕ) → i < j → j < n → e i ≡ true → e j ≡ true → x j ≡ x i → ⊥)
      → length (keep (left n) l) + count_below n e ≡ length l
  unfolding some_below count_below
  gone zero on apart = let q = ap (λ (k : List ℕ). length k) (keep_all (left 0) l (λ _. refl)) in omega (arith, q)
  gone (suc n) on apart =
      next_gone n (on n (le_refl _)) (λ i k. apart i n k (le_refl _)) (gone n (λ i k. on i (omega arith)) (λ i j p q. apart i j p (omega arith)))

-- ---- of a step

unmet : (moves heads on own opp : Bool) → moves ≡ true
    → dies (None if not moves else (Some HeadOn) if heads else (Some Wall) if not on else (Some SelfBody) if own else (Some OppBody) if opp else None) ≡ false
    → heads ≡ false
unmet true true on own opp t e = absurd (true≢false e)
unmet true false on own opp t e = refl
unmet false heads on own opp t e = absurd (false≢true t)

module _ (g n : ℕ) (food : List ℕ) (m : ℕ → Moved)
    (on : (i : ℕ) → i < n → (m i).eats ≡ true → ((m i).moves ≡ true) × (member (cell_of g (m i).head) food ≡ true)) where
  abbrev cause : ℕ → Option Cause
  cause j = get_or (each_below n (cause_of g n m)) j None

  abbrev cell : ℕ → ℕ
  cell j = get_or (each_below n (λ i. cell_of g (m i).head)) j 0

  abbrev ate : ℕ → Bool
  ate j = get_or (each_below n (λ i. ate_now (m i) (cause i))) j false

  -- an eater lives and its head is on food
  eater : (i : ℕ) → i < n → ate i ≡ true → ((m i).eats ≡ true) × (dies (cause_of g n m i) ≡ false)
  eater i h t =
      let u : ate_now (m i) (cause i) ≡ true = sym (each_at n (λ i. ate_now (m i) (cause i)) false i h) ∙ t in (
        and_left (m i).eats (not (dies (cause i))) u,
        ap dies (sym (each_at n (cause_of g n m) None i h)) ∙ not-true (dies (cause i)) (and_right (m i).eats (not (dies (cause i))) u),
      )

  cell_at : (i : ℕ) → i < n → cell i ≡ cell_of g (m i).head
  cell_at i h = each_at n (λ i. cell_of g (m i).head) 0 i h

  unmet_at : (i : ℕ) → (m i).moves ≡ true → dies (cause_of g n m i) ≡ false → another g n m i (λ j. same (m i).head (m j).head) ≡ false
  unfolding cause_of
  unmet_at i t e =
      unmet (m i).moves (another g n m i (λ j. same (m i).head (m j).head)) (inside (pos g) (m i).head)
      (member (cell_of g (m i).head) (m i).rest) (another g n m i (on_body g n m (m i).head)) t e

  -- two eaters have no cell in common: they would have met
  apart : (i j : ℕ) → i < j → j < n → ate i ≡ true → ate j ≡ true → cell j ≡ cell i → ⊥
  apart i j h k t u q =
      let l : i < n = omega arith in
      let a = eater i l t in
      let b = eater j k u in
      let p = (on i l a.0).0 in
      let r = (on j k b.0).0 in
      let c : eqb (cell_of g (m i).head) (cell_of g (m j).head) ≡ true = eq-eqb _ _ (sym (cell_at i l) ∙ sym q ∙ cell_at j k) in
      let z : same (m i).head (m j).head ≡ true = same_cell g (m i).head (m j).head (survivor_clear g n m i p a.1).0 (survivor_clear g n m j r b.1).0 ∙ c in
      let w : eqb i j ≡ false = ne_eqb i j (λ f. omega arith) in
      let met = some_found (λ j. not (eqb i j) && (m j).moves && same (m i).head (m j).head) n j k (rw (w, r, z)) in
      true≢false (sym met ∙ unmet_at i p a.1)

  -- what is due after a step that is not terminal are the apples that are gone
  pub due_gone : (s : Setting) → ascending 0 food ≡ true → (transition_of s g n food m).terminal ≡ false
      → length (transition_of s g n food m).next.food + (transition_of s g n food m).next.due ≡ length food
  unfolding transition_of
  due_gone s f t = rw t (gone food (ascending_distinct 0 food f) cell ate n (λ i h e. rw (cell_at i h) (on i h (eater i h e).0).1) apart)

eats_on : (g : ℕ) (food : List ℕ) (z : Snake) (h : Heading) (p : Place) (b : Bool) → (goes z.body h p (on_food g food p) if b else stays z).eats ≡ true
    → ((goes z.body h p (on_food g food p) if b else stays z).moves ≡ true) × (member (cell_of g (goes z.body h p (on_food g food p) if b else stays z).head) food ≡ true)
eats_on g food z h p true e = (refl, and_right (inside (pos g) p) _ e)
eats_on g food z h p false e = absurd (false≢true e)

pub apples_gone : (s : Setting) (t : State) (acts : List ℕ) → ascending 0 t.food ≡ true → (stepped s t acts).terminal ≡ false
    → length (stepped s t acts).next.food + (stepped s t acts).next.due ≡ length t.food
unfolding stepped
apples_gone s t acts f e =
    due_gone t.side (count t) t.food (λ i. get_or (each_below (count t) (moved_of t acts)) i (stays nobody))
    (λ i h u.
    let q = each_at (count t) (moved_of t acts) (stays nobody) i h in
    rw q (eats_on t.side t.food (snake_of t i) _ _ (snake_of t i).alive (rw q at u)))
    s f e
