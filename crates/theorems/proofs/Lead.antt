-- In the events of a step a living snake has lost exactly where another leads it: then the step is terminal by the lead, two live, and the
-- longer won. So max_ticks ends no match by the lead. Assumes nothing.
use Rattle.std.specs.Prelude.{Option, Some, None}
use Prim.Native.Nat.{ℕ, zero, suc, ◌-◌, ◌<◌}
use native.Mathlib.Nat.{le_refl}
use native.Mathlib.Omega.{arith}
use mathlib.Core.Path.{◌≡◌, refl, sym, ap, ◌∙◌}
use mathlib.Core.Bool.{Bool, true, false, not, ◌&&◌, ◌||◌, and-false, or-true, true≢false, false≢true}
use mathlib.Core.List.{List}
use mathlib.Core.Logic.{inl, inr}
use lib.Dec.{leb, ltb, eqb}
use lib.ListN.{length, get_or}
use borrow.Author.Tests.{ltb-true, eqb-true, not-true}
use Rattle.lists.specs.Choice.{◌if◌else◌}
use Rattle.lists.specs.Below.{some_below, count_below, each_below}
use Rattle.lists.proofs.Tests.{tell, and_left}
use Rattle.lists.proofs.Below.{some_found, some_false, some_ext, each_at, each_long}
use Rattle.rules.specs.State.{Snake, State, nobody, count}
use Rattle.rules.specs.Events.{dies, blank}
use Rattle.rules.specs.Step.{Moved, Transition, cause_of, after, alive, deaths, leads, transition_of, stepped}
use Rattle.rules.specs.declared.Cause.{Cause}
use Rattle.rules.specs.declared.Event.{Event}
use Rattle.rules.specs.declared.Setting.{Setting}
use Rattle.standing.specs.Standing.{lost_alive, reached, counted, ends_by}
use Rattle.standing.specs.declared.Match.{Match}
use Rattle.theorems.specs.Lead.{leads_in, led_in, by_lead, LostToLead}

-- ---- someone below n who passes

pub data Found (n : ℕ) (p : ℕ → Bool) : Type 0 where
  found : (i : ℕ) → i < n → p i ≡ true → Found n p

pub some_one : (n : ℕ) (p : ℕ → Bool) → some_below n p ≡ true → Found n p
unfolding some_below
some_one zero p e = absurd (false≢true e)
some_one (suc n) p e = go (some_below n p) (p n) (some_one n p) refl e
  where
    go : (a b : Bool) → (a ≡ true → Found n p) → b ≡ p n → (a || b) ≡ true → Found (suc n) p
    go true b rest q e = elim (rest refl) [ found i h t ↦ found i (omega arith) t ]
    go false b rest q e = found n (le_refl _) (sym q ∙ e)

-- ---- what a lead says

pub record Leading (n : ℕ) (l : Option ℕ) (z : ℕ → Snake) (i j : ℕ) : Type 0 where
  pub lead : ℕ
  pub set : l ≡ Some lead
  pub two : count_below n (λ a. (z a).alive) ≡ 2
  pub longer : (z i).alive ≡ true
  pub other : (z j).alive ≡ true
  pub apart : length (z j).body < length (z i).body

record Five (a b c d e : Bool) : Type 0 where
  one : a ≡ true
  two : b ≡ true
  three : c ≡ true
  four : d ≡ true

five : (a b c d e : Bool) → (a && (b && c && d && e)) ≡ true → Five a b c d e
five false b c d e h = absurd (false≢true h)
five true false c d e h = absurd (false≢true h)
five true true false d e h = absurd (false≢true h)
five true true true false e h = absurd (false≢true h)
five true true true true e h = record { one = refl; two = refl; three = refl; four = refl }

module _ (n : ℕ) (c : ℕ → Option Cause) (z : ℕ → Snake) where
  pub leading : (l : Option ℕ) (i j : ℕ) → leads n c z l i j ≡ true → Leading n l z i j
  leading None i j e = absurd (false≢true e)
  leading (Some k) i j e =
      let f = five (eqb (alive n c z) 2) (z i).alive (z j).alive (ltb (length (z j).body) (length (z i).body)) (leb k (length (z i).body - length (z j).body)) e in
      record { lead = k; set = refl; two = eqb-true (alive n c z) 2 f.one; longer = f.two; other = f.three; apart = ltb-true (length (z j).body) (length (z i).body) f.four }

  -- the causes have no part in it
  causes_aside : (l : Option ℕ) (i j : ℕ) → leads n (λ _. None) z l i j ≡ leads n c z l i j
  causes_aside None i j = refl
  causes_aside (Some k) i j = refl

  -- a corpse is not led
  pub corpse_unled : (l : Option ℕ) (i j : ℕ) → (z j).alive ≡ false → leads n c z l i j ≡ false
  corpse_unled l i j e = elim (tell (leads n c z l i j)) [
    | inl t ↦ absurd (true≢false (sym (leading l i j t).other ∙ e))
    | inr f ↦ f
  ]

-- ---- in a step

-- a casualty lost as a casualty, another by the lead alone
lost_how : (d a l : Bool) → (d ≡ true → l ≡ false) → ((d && a || l) && not d) ≡ l
lost_how true a true h = absurd (true≢false (h refl))
lost_how true true false h = refl
lost_how true false false h = refl
lost_how false a true h = refl
lost_how false a false h = refl

either : (a b : Bool) → b ≡ true → (a || b) ≡ true
either a b e = rw e (or-true a)

module _ (s : Setting) (g n : ℕ) (food : List ℕ) (m : ℕ → Moved) where
  abbrev o : Transition
  o = transition_of s g n food m

  abbrev c : ℕ → Option Cause
  c j = get_or (each_below n (cause_of g n m)) j None

  abbrev z : ℕ → Snake
  z j = get_or (each_below n (λ j. after g (m j) (c j))) j nobody

  abbrev l : Option ℕ
  l = s.win_food_lead

  casualty : (i : ℕ) → i < n → dies (c i) ≡ true → (z i).alive ≡ false
  casualty i h e = ap (λ (y : Snake). y.alive) (each_at n (λ j. after g (m j) (c j)) nobody i h) ∙ ap (λ (b : Bool). (m i).moves && not b) e ∙ and-false (m i).moves

  lost_led : (i : ℕ) → i < n → lost_alive (get_or o.events i blank) ≡ some_below n (λ j. leads n c z l j i)
  unfolding transition_of
  lost_led i h =
      ap lost_alive (each_at n _ blank i h)
      ∙ lost_how (dies (c i)) (ltb 0 (alive n c z)) (some_below n (λ j. leads n c z l j i))
      (λ e. some_false (λ j. leads n c z l j i) n (λ j _. corpse_unled n c z l j i (casualty i h e)))

  snakes_long : count o.next ≡ n
  unfolding transition_of
  snakes_long = each_long n (λ j. after g (m j) (c j))

  -- the next state says who leads
  leads_next : (i j : ℕ) → leads_in s o.next i j ≡ leads n c z l i j
  unfolding transition_of
  leads_next i j = ap (λ (k : ℕ). leads k (λ _. None) z l i j) snakes_long ∙ causes_aside n c z l i j

  led_next : (i : ℕ) → i < n → lost_alive (get_or o.events i blank) ≡ led_in s o.next i
  led_next i h =
      lost_led i h
      ∙ sym (ap (λ (k : ℕ). some_below k (λ j. leads_in s o.next j i)) snakes_long ∙ some_ext n (λ j. leads_in s o.next j i) (λ j. leads n c z l j i) (λ j _. leads_next j i))

  by_lead_is : by_lead s o.next ≡ some_below n (λ i. some_below n (leads n c z l i))
  by_lead_is =
      ap (λ (k : ℕ). some_below k (λ i. some_below k (leads_in s o.next i))) snakes_long
      ∙ some_ext n (λ i. some_below n (leads_in s o.next i)) (λ i. some_below n (leads n c z l i)) (λ i _. some_ext n (leads_in s o.next i) (leads n c z l i) (λ j _. leads_next i j))

  lead_ends : by_lead s o.next ≡ true → o.terminal ≡ true
  unfolding transition_of
  lead_ends e = either (leb (alive n c z) (0 if s.play_to_last else 1)) (some_below n (λ i. some_below n (leads n c z l i))) (sym by_lead_is ∙ e)

  lost_to : (i : ℕ) → i < n → some_below n (λ j. leads n c z l j i) ≡ true → LostToLead s o n i
  unfolding transition_of
  lost_to i h e = elim (some_one n (λ j. leads n c z l j i) e) [
    | found w k t ↦
        let f = leading n c z l w i t in
        let q = some_found (leads n c z l w) n i h t in
        let b : by_lead s o.next ≡ true = by_lead_is ∙ some_found (λ i. some_below n (leads n c z l i)) n w k q in
        record {
          lead = b;
          terminal = lead_ends b;
          two = f.two;
          lives = f.other;
          winner = w;
          below = k;
          survives = f.longer;
          longer = f.apart;
          won = ap (λ (x : Event). x.won) (each_at n _ blank w k) ∙ either ((z w).alive && eqb (alive n c z) 1 && ltb 0 (deaths n c z)) (some_below n (leads n c z l w)) q;
        }
  ]

module _ (s : Setting) (t : State) (acts : List ℕ) where
  -- a living snake has lost exactly where another leads it
  pub living_lost : (i : ℕ) → i < count t → lost_alive (get_or (stepped s t acts).events i blank) ≡ led_in s (stepped s t acts).next i
  unfolding stepped
  living_lost i h = led_next s t.side (count t) t.food _ i h

  -- then the lead ended the match
  pub lost_to_lead : (i : ℕ) → i < count t → lost_alive (get_or (stepped s t acts).events i blank) ≡ true → LostToLead s (stepped s t acts) (count t) i
  unfolding stepped
  lost_to_lead i h e = lost_to s t.side (count t) t.food _ i h (sym (lost_led s t.side (count t) t.food _ i h) ∙ e)

  pub lead_terminal : by_lead s (stepped s t acts).next ≡ true → (stepped s t acts).terminal ≡ true
  unfolding stepped
  lead_terminal e = lead_ends s t.side (count t) t.food _ e

  -- max_ticks ends no match that the lead ends
  pub ticks_apart : (m : Match) → ends_by m (stepped s t acts).terminal ≡ true → by_lead s (stepped s t acts).next ≡ false
  ticks_apart m e = elim (tell (by_lead s (stepped s t acts).next)) [
    | inl b ↦
        let over = (stepped s t acts).terminal in
        let h : over ≡ false = not-true over (and_left (not over) (reached m.setting.max_ticks (counted m.moves)) e) in
        absurd (true≢false (sym (lead_terminal b) ∙ h))
    | inr f ↦ f
  ]
