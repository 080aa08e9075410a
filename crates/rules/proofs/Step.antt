-- What a step never does: let a corpse decide a fate, or let a casualty lose to nobody. Assumes nothing.
use Rattle.std.specs.Prelude.{Option, Some, None}
use Prim.Native.Nat.{ℕ, ◌<◌}
use native.Mathlib.Omega.{arith}
use mathlib.Core.Path.{◌≡◌, refl, sym, ap, ap₂, ◌∙◌}
use mathlib.Core.Logic.{⊎_elim}
use mathlib.Core.Bool.{Bool, true, false, not, ◌&&◌, ◌||◌, false≢true}
use mathlib.Core.List.{List}
use lib.Dec.{eqb}
use lib.IntN.{pos}
use lib.ListN.{get_or}
use Rattle.lists.specs.Choice.{◌if◌else◌}
use Rattle.lists.specs.Below.{count_below, each_below}
use Rattle.lists.specs.Lists.{member}
use Rattle.lists.proofs.Tests.{tell, ordered, less, more}
use Rattle.lists.proofs.Below.{some_ext, some_false, each_at}
use Rattle.rules.specs.Grid.{inside, same, cell_of}
use Rattle.rules.specs.State.{Snake, State, nobody, count, snake_of}
use Rattle.rules.specs.Events.{dies, blank}
use Rattle.rules.specs.Step.{Moved, another, on_body, cause_of, after, alive, leads, lost_by, transition_of, stepped}
use Rattle.rules.specs.declared.Cause.{Cause}
use Rattle.rules.specs.declared.Cause.TheVariants.{Wall, SelfBody, OppBody, HeadOn}
use Rattle.rules.specs.declared.Event.{Event}
use Rattle.rules.specs.declared.Setting.{Setting}

-- ---- two worlds with the same living snakes: a corpse's body changes no one's fate

module _ (g n : ℕ) (m k : ℕ → Moved) (moves : (j : ℕ) → (m j).moves ≡ (k j).moves) (agree : (j : ℕ) → (m j).moves ≡ true → m j ≡ k j) where
  -- a test of the living gives the same, where it depends on them alone
  others : (i : ℕ) (p q : ℕ → Bool) → ((j : ℕ) → (m j).moves ≡ true → p j ≡ q j) → another g n m i p ≡ another g n k i q
  others i p q h =
      some_ext n (λ j. not (eqb i j) && (m j).moves && p j) (λ j. not (eqb i j) && (k j).moves && q j)
      (λ j _. ap (λ (b : Bool). not (eqb i j) && b && p j) (moves j) ∙ asked (not (eqb i j)) (k j).moves (p j) (q j) (λ t. h j (moves j ∙ t)))
    where
      asked : (a b x y : Bool) → (b ≡ true → x ≡ y) → (a && b && x) ≡ (a && b && y)
      asked true true x y e = e refl
      asked true false x y e = refl
      asked false b x y e = refl

  pub corpse_harmless : (i : ℕ) → cause_of g n m i ≡ cause_of g n k i
  unfolding cause_of
  corpse_harmless i =
      ⊎_elim
      (λ t.
      let e = agree i t in
      let heads = others i (λ j. same (m i).head (m j).head) (λ j. same (k i).head (k j).head) (λ j l. ap₂ (λ (a b : Moved). same a.head b.head) e (agree j l)) in
      let bodies = others i (on_body g n m (m i).head) (on_body g n k (k i).head)
      (λ j l. ap₂ (λ (a b : Moved). same a.head b.head || member (cell_of g a.head) b.rest) e (agree j l)) in
      λ r.
      None if not (moves i r) else
      (Some HeadOn) if heads r else
      (Some Wall) if not (inside (pos g) (e r).head) else
      (Some SelfBody) if member (cell_of g (e r).head) (e r).rest else
      (Some OppBody) if bodies r else
      None)
      (λ f. let b : (k i).moves ≡ false = sym (moves i) ∙ f in rw (f, b))
      (tell (m i).moves)

-- ---- a casualty that lost has someone alive after the step

module _ (n : ℕ) (c : ℕ → Option Cause) (z : ℕ → Snake) (none : alive n c z ≡ 0) where
  nobody_leads : (l : Option ℕ) (i j : ℕ) → leads n c z l i j ≡ false
  nobody_leads None i j = refl
  nobody_leads (Some k) i j = rw none

  nobody_lost : (s : Setting) (i : ℕ) → lost_by n c z s i ≡ false
  nobody_lost s i = rw (some_false (λ j. leads n c z s.win_food_lead j i) n (λ j _. nobody_leads s.win_food_lead j i), none) (neither (dies (c i)))
    where
      neither : (a : Bool) → (a && false || false) ≡ false
      neither true = refl
      neither false = refl

pub lost_by_someone : (n : ℕ) (c : ℕ → Option Cause) (z : ℕ → Snake) (s : Setting) (i : ℕ) → lost_by n c z s i ≡ true → 0 < alive n c z
lost_by_someone n c z s i t = elim (ordered 0 (alive n c z)) [
  | less h e ↦ h
  | more h e ↦ absurd (false≢true (sym (nobody_lost n c z (omega arith) s i) ∙ t))
]

-- snake i of a step
module _ (s : Setting) (g n : ℕ) (food : List ℕ) (m : ℕ → Moved) (i : ℕ) (h : i < n) where
  lost_in : (get_or (transition_of s g n food m).events i blank).lost ≡ true → 0 < count_below n (λ j. (snake_of (transition_of s g n food m).next j).alive)
  unfolding transition_of
  lost_in e =
      let c : ℕ → Option Cause = λ j. get_or (each_below n (cause_of g n m)) j None in
      let z : ℕ → Snake = λ j. get_or (each_below n (λ j. after g (m j) (c j))) j nobody in
      lost_by_someone n c z s i (sym (ap (λ (x : Event). x.lost) (each_at n _ blank i h)) ∙ e)

pub lost_to_someone : (s : Setting) (t : State) (acts : List ℕ) (i : ℕ) → i < count t
    → (get_or (stepped s t acts).events i blank).lost ≡ true → 0 < count_below (count t) (λ j. (snake_of (stepped s t acts).next j).alive)
unfolding stepped
lost_to_someone s t acts i h e = lost_in s t.side (count t) t.food _ i h e
